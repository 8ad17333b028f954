-- What tells two classes apart, as it stands in the list of all two classes.
use Rattle.std.specs.Prelude.{◌≡◌, ℕ, List, [], ◌∷◌, ◌++◌, map, slice_get, Some}
use Rattle.std.specs.List.{AllZip}
use Rattle.event_nodes.specs.Nodes.{EventGraphView}
use Rattle.event_form.specs.Frames.{TellsFrame}
use Rattle.class_search.specs.declared.class_separations.apart.Apart.{Apart}
use Rattle.class_search.specs.class_separations.Apart.{number_of}
use Rattle.event_form.specs.declared.event_findings.unshown_pairs.separations.ToldSeparation.{ToldSeparation}

-- what tells the two classes apart is told: the latches, the values, and the frame of its bits
pub record IsToldAt (w : EventGraphView) (aparts : List Apart) (classes : ℕ × ℕ) (x : ToldSeparation) : Type 0 where
  pub apart : Apart
  pub at : slice_get aparts (number_of classes.0 classes.1) ≡ Some apart
  pub low_is : x.low ≡ classes.0
  pub high_is : x.high ≡ classes.1
  pub low_latch : x.low_latch ≡ apart.low
  pub high_latch : x.high_latch ≡ apart.high
  pub left : x.left ≡ apart.left
  pub right : x.right ≡ apart.right
  pub frame : TellsFrame w apart.vars apart.bits x.frame.items

-- each two of the numbers, in order
abbrev pub two_of : List ℕ → List (ℕ × ℕ)
two_of [] = []
two_of (k ∷ ks) = map (λ (j : ℕ). (k, j)) ks ++ two_of ks

-- what tells the class from each of these was put behind the others
pub record HaveTold (w : EventGraphView) (aparts : List Apart) (low : ℕ) (others : List ℕ) (old new : List ToldSeparation) : Type 0 where
  pub more : List ToldSeparation
  pub behind : new ≡ old ++ more
  pub told : AllZip (IsToldAt w aparts) (map (λ (j : ℕ). (low, j)) others) more
