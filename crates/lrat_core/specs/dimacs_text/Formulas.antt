-- Clauses as a text gives them.
use Rattle.std.specs.Prelude.{ℕ, List}
use Rattle.proof_check.specs.Literals.{Literal}

-- clauses over the variables from 1 to this number
pub record Formula : Type 0 where
  pub variables : ℕ
  pub clauses : List (List Literal)
