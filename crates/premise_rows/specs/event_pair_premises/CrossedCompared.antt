-- The pair that differs in a frame with care, as it is compared: it isn't shown, and its paths have one class, which is told from none.
use Rattle.std.specs.Prelude.{◌≡◌, ℕ, true, false, [], ◌∷◌, codes}
use Rattle.witness_report.specs.declared.witness.PairName.TheVariants as pair
use Rattle.event_form.specs.declared.event_findings.pairs.EventPairs.{EventPairs}
use Rattle.event_form.specs.declared.event_findings.verdict.EventVerdict.TheVariants as verdict
use Rattle.event_form.specs.declared.event_findings.verdict.UnshownPair.{UnshownPair}
use Rattle.event_form.specs.event_findings.Findings.{FindingsFit}
use Rattle.event_form.specs.event_findings.unshown_pairs.Told.{TellsBits}
use Rattle.premise_rows.specs.event_pair_premises.Comparable.{CanBeCompared}
use Rattle.premise_rows.specs.event_pair_premises.Crossed.{crossed_pair, crossed_result, e_alone, e_then_a}
use Rattle.premise_rows.specs.event_pair_premises.Held.{loads_a, loads_not_a}
use Rattle.premise_rows.specs.event_pair_premises.HeldCompared.{with_classes, IsToldApart}

-- the one pair, of depth 1
abbrev pub crossed_compared : EventPairs
crossed_compared = record {
  pairs = record { ref_ptr = (0, 0); now = crossed_pair ∷ [] };
  depths = record { ref_ptr = (0, 0); now = 1 ∷ [] };
  names = record { ref_ptr = (0, 0); now = codes "e" ∷ codes "a" ∷ [] };
  cut = false;
}

-- at the child by class 1 e is 1 and a is 0, under which the sides are 0 and 1; and no two classes are told apart
pub record TellsEAlone (x : UnshownPair) : Type 0 where
  pub pair_is : x.frame.pair ≡ pair.Output (codes "y")
  pub left_is : x.frame.left ≡ false
  pub right_is : x.frame.right ≡ true
  pub told : TellsBits e_then_a e_alone x.frame.frame.items
  pub apart : x.apart ≡ []

-- The pair can be compared, and what is found fits the circuits where it tells that.
pub record CrossedPairCanBeCompared : Type 0 where
  pub first : CanBeCompared with_classes crossed_compared
  pub separated : IsToldApart with_classes
  pub found : (x : UnshownPair) → TellsEAlone x → (conflicts : ℕ) → FindingsFit loads_a loads_not_a crossed_compared conflicts (record { pairs = crossed_result ∷ []; verdict = verdict.Events x })
