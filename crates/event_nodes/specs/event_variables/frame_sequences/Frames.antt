-- Rows of bits, by the bits of a frame.
use Rattle.std.specs.Prelude.{◌≡◌, ◌≢◌, ◌&&◌, ◌==◌, if◌then◌else◌, ℕ, ◌+◌, ◌-◌, ◌<◌, Bool, List, length, map, slice_get, slice_index_or, false, Option, Some, None, Vec}
use Rattle.std.specs.declared.alloc.Global.{Global}
use Rattle.circuit_theory.specs.Names.{same_name}
use Rattle.circuit_theory.specs.Query.{Variable}
use Rattle.circuit_theory.specs.Frame.{always_node}

-- so many steps of class 0 are the path, or no number of them is
abbrev pub AreAlwaysSteps : List ℕ → Option ℕ → Type 0
AreAlwaysSteps path (Some k) = path ≡ always_node k
AreAlwaysSteps path None = (k : ℕ) → path ≢ always_node k

-- the row has the bits of a cycle: what each of so many inputs had so many cycles before the last one
abbrev pub IsRowOf : ℕ → ℕ → (ℕ → ℕ → Bool) → ℕ → List Bool → Type 0
IsRowOf last count a cycle row = (length row ≡ count) × ((i : ℕ) → i < count → slice_index_or row i false ≡ a i (last - cycle))

-- one row for each cycle up to the last
pub record AreRowsOf (last count : ℕ) (a : ℕ → ℕ → Bool) (rows : List (Vec Bool Global)) : Type 0 where
  pub long : length rows ≡ last + 1
  pub each : (cycle : ℕ) (row : Vec Bool Global) → slice_get rows cycle ≡ Some row → IsRowOf last count a cycle row.items

-- so many rows of so many bits
pub record IsTable (last count : ℕ) (rows : List (Vec Bool Global)) : Type 0 where
  pub long : length rows ≡ last + 1
  pub each : (cycle : ℕ) (row : Vec Bool Global) → slice_get rows cycle ≡ Some row → length row.items ≡ count

-- the bits of inputs so many cycles ago, with that of one variable more before them
abbrev pub with_variable : Variable (List ℕ) → Bool → (ℕ → ℕ → Bool) → ℕ → ℕ → Bool
with_variable x bit a i k = if (x.input == i) && same_name x.at (always_node k) then bit else a i k

-- the variable's bit stands before those that stood in the rows
abbrev pub HasPut : ℕ → ℕ → Variable (List ℕ) → Bool → List (Vec Bool Global) → List (Vec Bool Global) → Type 0
HasPut last count x bit old new = (a : ℕ → ℕ → Bool) → AreRowsOf last count a old → AreRowsOf last count (with_variable x bit a) new

-- the lists of bits
abbrev pub rows_in : List (Vec Bool Global) → List (List Bool)
rows_in rows = map (λ (row : Vec Bool Global). row.items) rows
