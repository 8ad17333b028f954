-- Bits of variables.
use Rattle.std.specs.Prelude.{◌≡◌, ℕ, ◌<◌, Bool, false, List, length, slice_get, slice_index_or, Some}

-- the first of the variables have these bits, where the assignment has a place for them
abbrev pub HasBits : List ℕ → List Bool → ℕ → List Bool → Type 0
HasBits vars bits count assignment = (k v : ℕ) → k < count → slice_get vars k ≡ Some v → v < length assignment → slice_index_or assignment v false ≡ slice_index_or bits k false
