-- What each cover keeps.
use Rattle.std.specs.Prelude.{◌≡◌, ◌⊎◌, ℕ, true, List, [], length, All}
use Rattle.circuit_theory.specs.Cover.{Cover}

-- a byte of a row is `0`, `1` or `-`
abbrev pub IsPlace : ℕ → Type 0
IsPlace byte = (byte ≡ 48) ⊎ (byte ≡ 49) ⊎ (byte ≡ 45)

-- a row has one such byte for each fan-in
abbrev pub IsCube : ℕ → List ℕ → Type 0
IsCube width row = (length row ≡ width) × All IsPlace row

-- each row is such a row, and a cover without rows has `on` true
pub record IsCoverSound (c : Cover) : Type 0 where
  pub cubes : All (IsCube c.width) c.rows
  pub empty_is_on : c.rows ≡ [] → c.on ≡ true
