-- What is found of the pairs of two circuits, told by the names of inputs and latches in place of their numbers.
use Rattle.std.specs.Prelude.{◌≡◌, ℕ, List, [], map, option_map, slice_get, slice_index_or, Some}
use Rattle.std.specs.List.{AllZip}
use Rattle.circuit_theory.specs.declared.Side.{Side}
use Rattle.circuit_theory.specs.declared.Side.TheVariants.{A, B}
use Rattle.flat_net.specs.declared.parts.LatchAt.{LatchAt}
use Rattle.flat_net.specs.View.{NetView}
use Rattle.sec_base.specs.declared.basics.Tag.{Tag}
use Rattle.witness_report.specs.declared.frame_report.frame.Spot.{Spot}
use Rattle.obligations.specs.declared.outcome.verdict.LimitAt.TheVariants as limit_at
use Rattle.obligations.specs.declared.outcome.verdict.Separation.{Separation}
use Rattle.obligations.specs.declared.outcome.verdict.Unshown.{Unshown}
use Rattle.obligations.specs.declared.outcome.verdict.Verdict.{Verdict}
use Rattle.obligations.specs.declared.outcome.verdict.Verdict.TheVariants as verdict
use Rattle.obligations.specs.declared.outcome.verdict.Why.TheVariants as why
use Rattle.event_form.specs.declared.frames.FrameBit.{FrameBit}
use Rattle.event_form.specs.declared.event_findings.unshown_pairs.separations.ToldSeparation.{ToldSeparation}
use Rattle.event_form.specs.declared.event_findings.verdict.EventVerdict.{EventVerdict}
use Rattle.event_form.specs.declared.event_findings.verdict.EventVerdict.TheVariants as found
use Rattle.event_form.specs.declared.event_findings.verdict.UnshownPair.{UnshownPair}

-- the names of the net's latches, in order
abbrev pub latch_names : NetView → List (List ℕ)
latch_names n = map (λ (l : LatchAt). l.name) n.latches

-- the names of the latches of one of two circuits
abbrev pub names_at : Side → List (List ℕ) → List (List ℕ) → List (List ℕ)
names_at A left right = left
names_at B left right = right

-- of two circuits with latches of these names the latch of a tag: its circuit and its name
abbrev pub latch_of : List (List ℕ) → List (List ℕ) → Tag → Side × List ℕ
latch_of left right t = (t.side, slice_index_or (names_at t.side left right) t.latch [])

-- the bit of an input at an event node, the input by its name
pub record NamesSpot (columns : List (List ℕ)) (x : FrameBit) (spot : Spot) : Type 0 where
  pub path : spot.path ≡ x.path.items
  pub input : slice_get columns x.input ≡ Some spot.input
  pub bit : spot.bit ≡ x.bit

-- two classes and a frame that tells them apart, the latches by their names
pub record NamesSeparation (left right columns : List (List ℕ)) (x : ToldSeparation) (s : Separation) : Type 0 where
  pub low : s.low ≡ x.low
  pub high : s.high ≡ x.high
  pub low_latch : s.low_latch ≡ option_map (latch_of left right) x.low_latch
  pub high_latch : s.high_latch ≡ latch_of left right x.high_latch
  pub low_value : s.left ≡ x.left
  pub high_value : s.right ≡ x.right
  pub frame : AllZip (NamesSpot columns) x.frame.items s.frame.spots

-- a pair that reaches another class than 0
pub record NamesUnshown (left right columns : List (List ℕ)) (x : UnshownPair) (u : Unshown) : Type 0 where
  pub pair : u.pair ≡ x.frame.pair
  pub left_value : u.left ≡ x.frame.left
  pub right_value : u.right ≡ x.frame.right
  pub frame : AllZip (NamesSpot columns) x.frame.frame.items u.frame.spots
  pub apart : AllZip (NamesSeparation left right columns) x.apart u.apart

-- the verdict of what is found, as an outcome has it
abbrev pub NamesVerdict : List (List ℕ) → List (List ℕ) → List (List ℕ) → EventVerdict → Verdict → Type 0
NamesVerdict left right columns found.Equal v = v ≡ verdict.Equal
NamesVerdict left right columns (found.Different w) v = v ≡ verdict.Different w
NamesVerdict left right columns (found.Limit name) v = v ≡ verdict.Limit (limit_at.Pair name)
NamesVerdict left right columns (found.Cut w) v = v ≡ verdict.NotShown (why.Cut w)
NamesVerdict left right columns (found.Events x) v = (u : Unshown) × (v ≡ verdict.NotShown (why.Events u)) × NamesUnshown left right columns x u
