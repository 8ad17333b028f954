-- Bits at positions.
use Rattle.std.specs.Prelude.{◌≡◌, ℕ, ◌<◌, Bool, true, List, slice_get, Some, Contains}

-- the bits at the first so many of the positions are set, and no others
pub record AreBits (bits : List Bool) (positions : List ℕ) (count : ℕ) : Type 0 where
  pub set : (i j : ℕ) → i < count → slice_get positions i ≡ Some j → slice_get bits j ≡ Some true
  pub from : (j : ℕ) → slice_get bits j ≡ Some true → Contains positions j
