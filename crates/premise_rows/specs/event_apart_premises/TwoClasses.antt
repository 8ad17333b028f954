-- The pair of the `and` and the `or` of two latches with different enables: its paths have two classes, which are told apart.
use Rattle.std.specs.Prelude.{◌≡◌, ℕ, true, false, [], ◌∷◌, None, Some, codes}
use Rattle.circuit_theory.specs.declared.Side.TheVariants.{A}
use Rattle.sec_base.specs.declared.basics.PairAnswer.TheVariants as answer
use Rattle.sec_setup.specs.declared.ports.pairs.SignalPair.{SignalPair}
use Rattle.witness_report.specs.declared.witness.PairName.TheVariants as pair
use Rattle.obligations.specs.declared.outcome.verdict.PairResult.{PairResult}
use Rattle.event_form.specs.declared.event_findings.pairs.EventPairs.{EventPairs}
use Rattle.event_form.specs.declared.event_findings.unshown_pairs.separations.ToldSeparation.{ToldSeparation}
use Rattle.event_form.specs.declared.event_findings.verdict.EventVerdict.TheVariants as verdict
use Rattle.event_form.specs.declared.event_findings.verdict.UnshownPair.{UnshownPair}
use Rattle.event_form.specs.event_findings.Findings.{FindingsFit}
use Rattle.event_form.specs.event_findings.unshown_pairs.Separations.{AreToldApart, OccursFor}
use Rattle.event_form.specs.event_findings.unshown_pairs.Told.{TellsBits}
use Rattle.event_form.specs.event_findings.unshown_pairs.class_events.Separated.{AreSeparated}
use Rattle.premise_rows.specs.event_apart_premises.TwoLoads.{both_loading, e_alone, four_variables, q_alone, shows_and, shows_or, three_variables, two_apart, with_two}
use Rattle.premise_rows.specs.event_pair_premises.Comparable.{CanBeCompared}

abbrev pub and_or_pair : SignalPair
and_or_pair = record { name = pair.Output (codes "y"); left = record { 0 = 7 }; right = record { 0 = 7 } }

-- the pair reaches the root and two children
abbrev pub and_or_result : PairResult
and_or_result = record { name = pair.Output (codes "y"); size = 3; answer = answer.NotShown; proof = None }

-- the one pair, of depth 1
abbrev pub and_or_compared : EventPairs
and_or_compared = record {
  pairs = record { ref_ptr = (0, 0); now = and_or_pair ∷ [] };
  depths = record { ref_ptr = (0, 0); now = 1 ∷ [] };
  names = record { ref_ptr = (0, 0); now = codes "e" ∷ codes "f" ∷ codes "a" ∷ [] };
  cut = false;
}

-- A's q from A's r, in the frame in which e alone is 1
pub record TellsQFromR (t : ToldSeparation) : Type 0 where
  pub low_is : t.low ≡ 1
  pub high_is : t.high ≡ 2
  pub low_latch : t.low_latch ≡ Some (record { side = A; latch = 0 })
  pub high_latch : t.high_latch ≡ record { side = A; latch = 1 }
  pub left_is : t.left ≡ true
  pub right_is : t.right ≡ false
  pub told : TellsBits three_variables e_alone t.frame.items

-- Each two classes of the circuits are told apart, and so classes 1 and 2, which are those in the paths of the pair's event nodes.
pub record TwoClassesAreToldApart : Type 0 where
  pub separated : AreSeparated with_two two_apart
  pub first_occurs : OccursFor both_loading and_or_pair 1
  pub second_occurs : OccursFor both_loading and_or_pair 2
  pub told_apart : (t : ToldSeparation) → TellsQFromR t → AreToldApart shows_and shows_or and_or_pair (t ∷ [])

-- q loaded 1 and r loaded 0, of which the `and` is 0 and the `or` is 1; and what tells q's class from that of r
pub record TellsQAlone (x : UnshownPair) : Type 0 where
  pub pair_is : x.frame.pair ≡ pair.Output (codes "y")
  pub left_is : x.frame.left ≡ false
  pub right_is : x.frame.right ≡ true
  pub told : TellsBits four_variables q_alone x.frame.frame.items
  pub one : ToldSeparation
  pub only : x.apart ≡ one ∷ []
  pub tells : TellsQFromR one

-- The pair can be compared, and what is found fits the circuits where it tells that.
pub record PairOfTwoClassesCanBeCompared : Type 0 where
  pub first : CanBeCompared with_two and_or_compared
  pub separated : AreSeparated with_two two_apart
  pub found : (x : UnshownPair) → TellsQAlone x → (conflicts : ℕ) → FindingsFit shows_and shows_or and_or_compared conflicts (record { pairs = and_or_result ∷ []; verdict = verdict.Events x })
