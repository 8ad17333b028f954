-- What can be told by names: its latches and inputs have some.
use Rattle.std.specs.Prelude.{ℕ, ◌<◌, List, length, Option, Some, None, All}
use Rattle.sec_base.specs.declared.basics.Tag.{Tag}
use Rattle.event_setup.specs.event_meaning.event_names.event_fits.FrameBit.{FrameBit}
use Rattle.event_setup.specs.event_meaning.event_names.event_fits.ToldSeparation.{ToldSeparation}
use Rattle.event_setup.specs.event_meaning.event_names.event_fits.EventVerdict.{EventVerdict}
use Rattle.event_setup.specs.event_meaning.event_names.event_fits.EventVerdict.TheVariants as found
use Rattle.event_setup.specs.event_meaning.event_names.event_fits.UnshownPair.{UnshownPair}
use Rattle.event_setup.specs.event_meaning.event_names.event_fits.Named.{names_at}
use Rattle.event_setup.specs.declared.event_meaning.event_names.names.Names.{Names}

-- the latch has a name
abbrev pub IsLatchIn : Names → Tag → Type 0
IsLatchIn n t = t.latch < length (names_at t.side n.left n.right)

abbrev pub IsOtherIn : Names → Option Tag → Type 0
IsOtherIn n None = Unit {0}
IsOtherIn n (Some t) = IsLatchIn n t

-- the input has a name
abbrev pub IsInputIn : List (List ℕ) → FrameBit → Type 0
IsInputIn columns bit = bit.input < length columns

abbrev pub IsBitIn : Names → FrameBit → Type 0
IsBitIn n bit = IsInputIn n.columns bit

pub record IsSeparationIn (n : Names) (x : ToldSeparation) : Type 0 where
  pub low : IsOtherIn n x.low_latch
  pub high : IsLatchIn n x.high_latch
  pub frame : All (IsBitIn n) x.frame.items

pub record IsUnshownIn (n : Names) (x : UnshownPair) : Type 0 where
  pub frame : All (IsBitIn n) x.frame.frame.items
  pub apart : All (IsSeparationIn n) x.apart

abbrev pub CanBeNamed : Names → EventVerdict → Type 0
CanBeNamed n (found.Events x) = IsUnshownIn n x
CanBeNamed n other = Unit {0}
