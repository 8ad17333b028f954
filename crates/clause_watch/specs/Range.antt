-- Clauses that speak of the variables up to a number alone.
use Rattle.std.specs.Prelude.{ℕ, ◌<◌, ◌≤◌, List}
use Rattle.std.specs.List.{All}
use Rattle.clause_base.specs.Literals.{Literal}

-- each literal's variable is from 1 to the number
abbrev pub AllInRange : ℕ → List Literal → Type 0
AllInRange variables c = All (λ l. (0 < l.variable) × (l.variable ≤ variables)) c

abbrev pub InRange : ℕ → List (List Literal) → Type 0
InRange variables clauses = All (AllInRange variables) clauses
