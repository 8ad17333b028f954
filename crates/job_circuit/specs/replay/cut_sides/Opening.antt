-- A net in which latches are cut open, and the bits of the latches that are left.
use Rattle.std.specs.Prelude.{◌≡◌, ℕ, Bool, List, length, slice_get, Some}
use Rattle.std.specs.List.{All, Contains}
use Rattle.flat_net.specs.Cut.{IsCut, IsCutCircuit}
use Rattle.flat_net.specs.declared.parts.LatchAt.{LatchAt}
use Rattle.flat_net.specs.View.{NetView, circuit_of}
use Rattle.sec_setup.specs.ports.Pairing.{AreNamedAt}
use Rattle.sec_setup.specs.ports.name_tables.Names.{latch_names}

-- the latch is one of the net's, and this is its bit
pub record HasBit (n : NetView) (bits : List Bool) (l : LatchAt) (bit : Bool) : Type 0 where
  pub position : ℕ
  pub latch : slice_get n.latches position ≡ Some l
  pub here : slice_get bits position ≡ Some bit

-- each latch that is left has the bit that it has among the net's latches
pub record AreBitsOf (n : NetView) (enabled : List Bool) (m : NetView) (bits : List Bool) : Type 0 where
  pub each : length bits ≡ length m.latches
  pub right : (k : ℕ) (l : LatchAt) (bit : Bool) → slice_get m.latches k ≡ Some l → slice_get bits k ≡ Some bit → HasBit n enabled l bit

-- each name is that of a latch of the net
abbrev pub AreNamesOf : NetView → List (List ℕ) → Type 0
AreNamesOf n names = All (Contains (latch_names n)) names

-- the net with the latches of these names cut out, and the bits of the others
pub record IsCutSide (n : NetView) (enabled : List Bool) (names : List (List ℕ)) (m : NetView) (bits : List Bool) : Type 0 where
  pub positions : List ℕ
  pub named : AreNamedAt n names positions
  pub parts : IsCut n m positions
  pub circuit : IsCutCircuit names (circuit_of n) (circuit_of m)
  pub bits_are : AreBitsOf n enabled m bits
