-- What is found of the pairs of two circuits, by what their comparison says.
use Rattle.std.proofs.Common.{◌≡◌, ◌≤◌, ℕ, Bool, true, List, sym, subst}
use Rattle.std.specs.List.{AllZip}
use Rattle.circuit_theory.specs.Joined.{Either}
use Rattle.circuit_theory.specs.Frame.{EventSide}
use Rattle.sec_setup.specs.declared.ports.pairs.SignalPair.{SignalPair}
use Rattle.sec_setup.specs.ports.Pairs.{ArePairsOf}
use Rattle.event_check.specs.event_answers.class_events.Made.{AreEnablesCounted}
use Rattle.edbf_unfold.specs.class_queries.Laws.{AreKept}
use Rattle.event_nodes.specs.View.{EventCircuitView}
use Rattle.event_form.specs.event_agreement.pair_events.View.{EventsView, IsEvents, side_of_both}
use Rattle.event_form.proofs.Asking.{side_same}
use Rattle.event_settles.specs.Cares.{CareFits}
use Rattle.event_settles.specs.declared.cares.PairCare.{PairCare}
use Rattle.event_form.specs.event_agreement.pair_events.Within.{IsCountedOnce}
use Rattle.event_check.specs.event_answers.Findings.{FindingsFit}
use Rattle.event_check.specs.event_answers.EventFindings.{EventFindings}
use Rattle.event_check.specs.event_answers.EventPairs.{EventPairs}
use Rattle.event_check.specs.event_answers.Counted.{ArePairsCounted}
use Rattle.event_check.specs.event_answers.Askable.{AreAskable, IsAskedBy}
use Rattle.event_check.specs.event_answers.Finding.{AreUnfolded, IsNamedFound}
use Rattle.event_check.specs.event_answers.Nameable.{CanBeNamed}
use Rattle.event_check.specs.event_answers.Names.{Names}
use Rattle.event_check.specs.declared.event_answers.outcomes.Found.{Found}
use Rattle.event_check.specs.declared.event_answers.reaching.Asked.{Asked}
use Rattle.event_check.proofs.event_answers.Finding.{long, unfolded}
use Rattle.event_check.proofs.event_answers.Naming.{verdict_named}
use Rattle.event_check.specs.Pairs.{ArePairsFound}

module _ (e : EventsView) (n : Names) (x : Asked) (askable : AreAskable e n x) (c : EventPairs) (asked : IsAskedBy n x c) (kept : AreKept e.left e.right e.events) (f : EventsView) (conflicts : ℕ) (findings : EventFindings) (counted : ArePairsCounted c.pairs.now e f)
    (fits : FindingsFit f.left f.right c conflicts findings) where
  fits_first : FindingsFit e.left e.right c conflicts findings
  fits_first =
      subst (λ (r : EventCircuitView). FindingsFit e.left r c conflicts findings) counted.later.right
      (subst (λ (l : EventCircuitView). FindingsFit l f.right c conflicts findings) counted.later.left fits)

  -- what is found can be told by names
  pub found_named : CanBeNamed n findings.verdict
  found_named =
      verdict_named e.left e.right n kept.left_sound kept.right_sound (long e kept) askable.left_columns askable.right_columns askable.left_latches askable.right_latches c findings.pairs findings.verdict
      (subst (ArePairsOf e.left.net e.right.net) (sym asked.0) askable.shown) fits_first.verdict_is

  -- and it is what is found of the circuits
  pub pairs_found : (is : IsEvents e) (k : AreEnablesCounted e) (few : e.count ≤ 500) → AreKept f.left f.right f.events → IsCountedOnce f → (settles : Bool) (cares : List PairCare) → (settles ≡ true → AllZip (CareFits (side_of_both f) conflicts) c.pairs.now cares) →
      (found : Found) → IsNamedFound n findings f.count cares found → ArePairsFound e.left e.right n x conflicts settles found
  pairs_found is k few later_kept once settles cares own found told = record {
    unfolded = subst (AreUnfolded e.left e.right x.pairs) (sym told.classes_are) (subst (λ (ps : List SignalPair). AreUnfolded e.left e.right ps f.count) asked.0 (unfolded e is k few c.pairs.now f counted later_kept once));
    compared = c;
    asked = asked;
    found = findings;
    fits = fits_first;
    pairs = told.pairs;
    verdict_is = told.verdict_is;
    cares = λ asks.
        subst (AllZip (CareFits (side_of_both e) conflicts) x.pairs) (sym told.cares_are)
        (subst (λ (ps : List SignalPair). AllZip (CareFits (side_of_both e) conflicts) ps cares) asked.0
        (subst (λ (s : EventSide (Either ℕ ℕ)). AllZip (CareFits s conflicts) c.pairs.now cares) (sym (side_same e f counted.later.left counted.later.right)) (own asks)));
  }
