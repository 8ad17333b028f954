-- The lines of a proof by hints.
use Rattle.std.specs.Prelude.{ℕ, List}
use Rattle.proof_check.specs.Literals.{Literal}
use Rattle.lrat_core.specs.declared.hints.Hint.{Hint}

-- a clause that is added under a number, with the hints that show it
pub record Addition : Type 0 where
  pub id : ℕ
  pub literals : List Literal
  pub hints : List Hint

pub data Line : Type 0 where
  -- a clause that follows from the live ones
  Adds : (a : Addition) → Line
  -- the life of the clauses of these numbers ends
  Deletes : (ids : List ℕ) → Line

-- the addition of a clause
abbrev pub adds : ℕ → List Literal → List Hint → Line
adds id literals hints = Adds (record { id = id; literals = literals; hints = hints })
