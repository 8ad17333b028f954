-- Why pairs of latches aren't taken.
use Rattle.std.specs.Prelude.{◌≡◌, ℕ, ◌<◌, List, Contains, Some, slice_get}
use Rattle.circuit_theory.specs.declared.Side.{Side}
use Rattle.flat_net.specs.View.{NetView}
use Rattle.net_names.specs.Renamed.{name_on, IsTaken}
use Rattle.net_names.specs.declared.latch_pairs.LatchPair.{LatchPair}
use Rattle.net_names.specs.declared.latch_pairs.PairsError.{PairsError}
use Rattle.net_names.specs.declared.latch_pairs.PairsError.TheVariants as pairs_error
use Rattle.net_names.specs.declared.renaming.RenameError.{RenameError}
use Rattle.net_names.specs.declared.renaming.RenameError.TheVariants as rename_error

-- the pair of this line has a name that an earlier one has on the same side
pub record StandsTwice (ps : List LatchPair) (line : ℕ) : Type 0 where
  pub side : Side
  pub earlier : ℕ
  pub later : ℕ
  pub before : earlier < later
  pub first : LatchPair
  pub second : LatchPair
  pub first_at : slice_get ps earlier ≡ Some first
  pub second_at : slice_get ps later ≡ Some second
  pub same : name_on side first ≡ name_on side second
  pub line_is : second.line ≡ line

-- what is true where pairs aren't taken
abbrev pub IsTwice : List LatchPair → PairsError → Type 0
IsTwice ps (pairs_error.Twice line) = StandsTwice ps line
IsTwice ps pairs_error.NoMemory = Unit {0}

-- a pair with this first name has this line
abbrev pub HasLine : List LatchPair → List ℕ → ℕ → Type 0
HasLine ps left line = (p : LatchPair) × Contains ps p × (p.left ≡ left) × (p.line ≡ line)

-- the pair of this line has a name that is taken
abbrev pub HasTaken : NetView → List LatchPair → ℕ → Type 0
HasTaken n ps line = (p : LatchPair) × Contains ps p × (p.line ≡ line) × IsTaken n ps p

-- what is true where latches don't get their new names
abbrev pub RenameFails : NetView → List LatchPair → RenameError → Type 0
RenameFails n ps (rename_error.Taken line) = HasTaken n ps line
RenameFails n ps rename_error.Order = Unit {0}
RenameFails n ps rename_error.NoMemory = Unit {0}
