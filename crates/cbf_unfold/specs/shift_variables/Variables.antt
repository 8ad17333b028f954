-- Variables: inputs at shifts, by their numbers in a table.
use Rattle.std.specs.Prelude.{ℕ, List, length, map, slice_index_or}
use Rattle.circuit_theory.specs.Query.{Variable, ShiftBefore}
use Rattle.std.specs.declared.cmp.Ordering.{Ordering}
use Rattle.aig.specs.Merged.{StandsBy, AreOrdered, IsMergeBy}

-- the variable with this number
abbrev pub variable_of : List (ℕ × ℕ) → ℕ → Variable ℕ
variable_of places v = let p = slice_index_or places v (0, 0) in record { input = p.0; at = p.1 }

abbrev pub variables_of : List (ℕ × ℕ) → List ℕ → List (Variable ℕ)
variables_of places vars = map (variable_of places) vars

-- the first number's variable goes before the second's
abbrev pub GoesBefore : List (ℕ × ℕ) → ℕ → ℕ → Type 0
GoesBefore places u v = ShiftBefore (variable_of places u) (variable_of places v)

-- how the variables of two numbers stand to each other
abbrev pub Stands : List (ℕ × ℕ) → ℕ → ℕ → Ordering → Type 0
Stands places = StandsBy (GoesBefore places)

-- numbers of the table, in the order of their variables
abbrev pub AreInOrder : List (ℕ × ℕ) → List ℕ → Type 0
AreInOrder places = AreOrdered (length places) (GoesBefore places)

-- the numbers that one of two lists has, in the order of their variables
abbrev pub IsMergeOf : List (ℕ × ℕ) → List ℕ → List ℕ → List ℕ → Type 0
IsMergeOf places = IsMergeBy (GoesBefore places)
