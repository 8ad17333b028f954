-- What is found of the pairs of two circuits under an assumption, by what their comparison says.
use Rattle.std.specs.List.{AllZip}
use Rattle.std.proofs.Common.{◌≡◌, ◌≤◌, ℕ, Bool, true, List, length, sym, ap, subst, Result, Err}
use Rattle.circuit_theory.specs.Joined.{Either}
use Rattle.circuit_theory.specs.Frame.{EventSide}
use Rattle.flat_net.specs.View.{NetView}
use Rattle.sec_setup.specs.declared.ports.pairs.SignalPair.{SignalPair}
use Rattle.sec_setup.specs.ports.Pairs.{ArePairsOf}
use Rattle.event_check.specs.event_answers.class_events.Made.{AreEnablesCounted}
use Rattle.edbf_unfold.specs.class_queries.Enables.{both_of}
use Rattle.edbf_unfold.specs.class_queries.Laws.{AreKept}
use Rattle.event_nodes.specs.View.{EventCircuitView}
use Rattle.event_form.specs.event_agreement.pair_events.View.{EventsView, IsEvents, side_of_both}
use Rattle.event_form.proofs.Asking.{side_same}
use Rattle.event_settles.specs.Cares.{CareFitsUnder}
use Rattle.event_settles.specs.declared.cares.PairCare.{PairCare}
use Rattle.event_form.specs.event_agreement.pair_events.Within.{IsCountedOnce}
use Rattle.event_check.specs.event_answers.EventFindings.{EventFindings}
use Rattle.event_check.specs.event_answers.EventPairs.{EventPairs}
use Rattle.assume_queries.specs.assume_sequences.Assumed.{CanBeAssumed, IsAssumedBy}
use Rattle.assume_queries.specs.declared.assume_sequences.premise.Premise.{Premise}
use Rattle.assume_queries.proofs.assume_sequences.Numbers.{number_below}
use Rattle.assume_queries.specs.assume_sequences.Filled.{bit_of}
use Rattle.assume_laws.specs.assume_shape.Shape.{assumption_of}
use Rattle.event_under.specs.Places.{IsLightAtNodes, IsOverAtNodes}
use Rattle.event_check.specs.event_answers.Askable.{AreAskable, IsAskedBy}
use Rattle.event_check.specs.event_answers.EventFormError.TheVariants as form_error
use Rattle.event_check.specs.event_answers.Finding.{AreNotUnfolded, AreUnfolded, IsNamedFound}
use Rattle.event_setup.specs.event_meaning.event_names.Nameable.{CanBeNamed}
use Rattle.event_setup.specs.declared.event_meaning.event_names.names.Names.{Names}
use Rattle.event_check.specs.declared.event_answers.outcomes.Found.{Found}
use Rattle.event_check.specs.declared.event_answers.reaching.Asked.{Asked}
use Rattle.event_check.proofs.event_answers.Finding.{long, not_unfolded, unfolded}
use Rattle.event_check.specs.event_check_under.event_answers_under.Pairs.{ArePairsFoundUnder, FindsPairsUnder}
use Rattle.event_check.proofs.event_check_under.event_names_under.Naming.{verdict_named_under}
use Rattle.event_under.specs.event_under_form.Formed.{ArePairsLight, ArePairsOver, AreRefusedUnder, FindingsFitAssumed}
use Rattle.event_under.specs.declared.event_under_form.error.EventUnderError.{EventUnderError}
use Rattle.event_under.specs.declared.event_under_form.error.EventUnderError.TheVariants as under_error
use Rattle.event_check.specs.event_check_under.Refusals.{refusal_under}

module _ (e : EventsView) (n : Names) (x : Asked) (askable : AreAskable e n x) (c : EventPairs) (asked : IsAskedBy n x c) (kept : AreKept e.left e.right e.events) (f : EventsView) (p : Premise) (premise : CanBeAssumed p (length n.columns)) (conflicts : ℕ)
    (findings : EventFindings) (light : ArePairsLight p.weight c.pairs.now e f) (fits : FindingsFitAssumed f.left f.right c p conflicts findings) where
  fits_first : FindingsFitAssumed e.left e.right c p conflicts findings
  fits_first =
      subst (λ (r : EventCircuitView). FindingsFitAssumed e.left r c p conflicts findings) light.0.later.right
      (subst (λ (l : EventCircuitView). FindingsFitAssumed l f.right c p conflicts findings) light.0.later.left fits)

  -- what is found can be told by names
  pub found_named : CanBeNamed n findings.verdict
  found_named =
      verdict_named_under (assumption_of premise.net premise.inputs premise.output) e.left e.right n kept.left_sound kept.right_sound (long e kept) askable.left_columns askable.right_columns askable.left_latches askable.right_latches
      (λ q i number. number_below p (length n.columns) premise.net premise.inputs premise.output premise.size premise.is i q number) (bit_of p.meeting) c findings.pairs findings.verdict
      (subst (ArePairsOf e.left.net e.right.net) (sym asked.0) askable.shown)
      (fits_first premise.net premise.inputs premise.output premise.size
      (subst (λ count. IsAssumedBy p count premise.net premise.inputs premise.output premise.size) (sym (ap length asked.2)) premise.is)).verdict_is

  -- and it is what is found of the circuits
  pub pairs_found : (is : IsEvents e) (k : AreEnablesCounted e) (few : e.count ≤ 500) → AreKept f.left f.right f.events → IsCountedOnce f → (settles : Bool) (cares : List PairCare) →
      (settles ≡ true → (m : NetView) (inputs : List ℕ) (output size : ℕ) → IsAssumedBy p (length c.names.now) m inputs output size → AllZip (CareFitsUnder (assumption_of m inputs output) (side_of_both f) conflicts) c.pairs.now cares) →
      (found : Found) → IsNamedFound n findings f.count cares found → ArePairsFoundUnder e.left e.right n x p conflicts settles found
  pairs_found is k few later_kept once settles cares own found told = record {
    unfolded = subst (AreUnfolded e.left e.right x.pairs) (sym told.classes_are) (subst (λ (ps : List SignalPair). AreUnfolded e.left e.right ps f.count) asked.0 (unfolded e is k few c.pairs.now f light.0 later_kept once));
    light = subst (IsLightAtNodes p.weight (both_of e.left e.right)) asked.0 light.1;
    compared = c;
    asked = asked;
    found = findings;
    fits = fits_first;
    pairs = told.pairs;
    verdict_is = told.verdict_is;
    cares = λ asks m inputs output size by.
        subst (AllZip (CareFitsUnder (assumption_of m inputs output) (side_of_both e) conflicts) x.pairs) (sym told.cares_are)
        (subst (λ (ps : List SignalPair). AllZip (CareFitsUnder (assumption_of m inputs output) (side_of_both e) conflicts) ps cares) asked.0
        (subst (λ (s : EventSide (Either ℕ ℕ)). AllZip (CareFitsUnder (assumption_of m inputs output) s conflicts) c.pairs.now cares) (sym (side_same e f light.0.later.left light.0.later.right)) (own asks m inputs output size by)));
  }

-- why they can't be compared
pub found_refused : {X : Type 0} (e : EventsView) (is : IsEvents e) (k : AreEnablesCounted e) (few : e.count ≤ 500) (n : Names) (x : Asked) (p : Premise) (conflicts : ℕ) (settles : Bool) (f : EventsView) → AreKept f.left f.right f.events → IsCountedOnce f →
    (pairs : List SignalPair) → pairs ≡ x.pairs → (error : EventUnderError) → (result : Result X EventUnderError) → result ≡ Err error → (result ≡ Err under_error.AssumptionTooLarge → ArePairsOver p.weight pairs e f) → AreRefusedUnder pairs e result →
    FindsPairsUnder e.left e.right n x p conflicts settles (Err (refusal_under error))
found_refused e is k few n x p conflicts settles f kept once pairs same under_error.TooManyEvents result told over stops =
    subst (λ (ps : List SignalPair). AreNotUnfolded e.left e.right ps (refusal_under under_error.TooManyEvents)) same (not_unfolded e is k few pairs form_error.TooManyEvents (stops form_error.TooManyEvents told))
found_refused e is k few n x p conflicts settles f kept once pairs same (under_error.TooLarge side) result told over stops =
    subst (λ (ps : List SignalPair). AreNotUnfolded e.left e.right ps (refusal_under (under_error.TooLarge side))) same (not_unfolded e is k few pairs (form_error.TooLarge side) (stops (form_error.TooLarge side) told))
found_refused e is k few n x p conflicts settles f kept once pairs same under_error.AssumptionTooLarge result told over stops =
    let h = over told in
    let u = subst (λ (ps : List SignalPair). AreUnfolded e.left e.right ps f.count) same (unfolded e is k few pairs f h.0 kept once) in
    (u.made, (u.within, subst (IsOverAtNodes p.weight (both_of e.left e.right)) same h.1))
found_refused e is k few n x p conflicts settles f kept once pairs same under_error.NoMemory result told over stops = tt
