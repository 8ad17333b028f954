-- What is asked of a trail and of clauses.
use Rattle.std.specs.Prelude.{◌≡◌, ◌≢◌, ℕ, List, length, Option, Some, None, slice_get}
use Rattle.clause_base.specs.Literals.{Literal, negation}
use Rattle.clause_watch.specs.Trails.{At, TrueBefore, FreeBefore, FalseBefore}
use Rattle.clause_watch.specs.declared.entry.Entry.{Entry}
use Rattle.clause_watch.specs.declared.entry.Truth.{Truth}
use Rattle.clause_watch.specs.declared.entry.Truth.TheVariants.{True, False, Free}

-- what the trail makes of the literal
abbrev pub IsTruth : List Entry → Literal → Truth → Type 0
IsTruth t l True = TrueBefore t (length t) l
IsTruth t l False = TrueBefore t (length t) (negation l)
IsTruth t l Free = FreeBefore t (length t) l

-- where the variable stands
abbrev pub IsPlace : List Entry → ℕ → Option ℕ → Type 0
IsPlace t variable (Some k) = (e : Entry) × (slice_get t k ≡ Some e) × (e.literal.variable ≡ variable)
IsPlace t variable None = (k : ℕ) (m : Literal) → At t k m → m.variable ≢ variable

-- the numbered clause is false
abbrev pub IsConflict : List (List Literal) → List Entry → ℕ → Type 0
IsConflict known t number = (c : List Literal) × (slice_get known number ≡ Some c) × FalseBefore t (length t) c
