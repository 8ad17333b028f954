-- The places of variables.
use Rattle.std.specs.Prelude.{ℕ, List, map}
use Rattle.cbf_unfold.specs.shift_variables.Variables.{variable_of}

-- the place of each of these variables of a table
abbrev pub shifts_of : List (ℕ × ℕ) → List ℕ → List ℕ
shifts_of table vars = map (λ v. (variable_of table v).at) vars
