-- How the rows of a stimulus are fed to a circuit.
use Rattle.std.specs.Prelude.{◌≡◌, ℕ, ◌<◌, Bool, false, List, length, slice_get, slice_index_or, map, Option, Some, None}
use Rattle.std.specs.List.{Contains}
use Rattle.flat_net.specs.declared.parts.Port.{Port}
use Rattle.flat_net.specs.View.{NetView}

-- the column in which the name stands, and none exactly where it stands in none
abbrev pub IsColumn : List (List ℕ) → List ℕ → Option ℕ → Type 0
IsColumn header name None = Contains header name → ⊥
IsColumn header name (Some k) = slice_get header k ≡ Some name

-- the column, if any, is one of so many
abbrev pub IsWithin : ℕ → Option ℕ → Type 0
IsWithin count None = Unit {0}
IsWithin count (Some k) = k < count

-- for each input the column of its name
pub record AreColumns (n : NetView) (header : List (List ℕ)) (columns : List (Option ℕ)) : Type 0 where
  pub each : length columns ≡ length n.inputs
  pub named : (i : ℕ) (port : Port) (column : Option ℕ) → slice_get n.inputs i ≡ Some port → slice_get columns i ≡ Some column → IsColumn header port.name column

-- the bit that stands in the column, and 0 where there is none
abbrev pub bit_of : List Bool → Option ℕ → Bool
bit_of row None = false
bit_of row (Some k) = slice_index_or row k false

-- a row's bits in the order of the columns
abbrev pub reordered : List (Option ℕ) → List Bool → List Bool
reordered columns row = map (bit_of row) columns
