-- Variables in order stand side by side where they have one place.
use Rattle.std.specs.Prelude.{ℕ, List}
use Rattle.std.specs.List.{AllPairs}
use Rattle.circuit_laws.specs.reset_laws.Reset.{CycleBefore}
use Rattle.cbf_unfold.specs.shift_variables.Variables.{variable_of, AreInOrder}
use Rattle.cbf_unfold.specs.shift_variables.query_places.Places.{AreGrouped}

-- in the order by shifts, and in that by cycles
abbrev pub VariablesAreGrouped : Type 0
VariablesAreGrouped = (table : List (ℕ × ℕ)) (vars : List ℕ) →
    (AreInOrder table vars → AreGrouped table vars) × (AllPairs (λ u v. CycleBefore (variable_of table u) (variable_of table v)) vars → AreGrouped table vars)
