-- What is asked, what is found of it, and why it isn't.
use Rattle.std.proofs.Common.{◌≡◌, ℕ, Err, refl, sym, ap, subst}
use Rattle.circuit_theory.specs.Joined.{Either}
use Rattle.circuit_theory.specs.Frame.{EventSide}
use Rattle.event_form.specs.event_agreement.pair_events.View.{side_of_both}
use Rattle.event_form.specs.Asked.{AreAsked}
use Rattle.event_form.specs.event_findings.unshown_pairs.class_events.Separated.{AreSeparated}
use Rattle.event_form.proofs.event_findings.unshown_pairs.class_events.Telling.{separated_stay}
use Rattle.event_form.proofs.Asking.{later_trans, side_same}
use Rattle.event_form.proofs.Refusing.{error_is}
use Rattle.event_comparison.specs.Asked.{AreAskedFrom}
use Rattle.event_comparison.proofs.Comparing.{asked_from, compared_later, counted_on}
use Rattle.event_comparison.proofs.Repeating.{never_again, stopped_told}
use Rattle.event_under.specs.Places.{IsLightAtNodes, IsOverAtNodes}
use Rattle.event_under.specs.event_under_form.Formed.{ArePairsOver, AreRefusedUnder}
use Rattle.event_under.specs.event_under_form.Refusals.{refusal_of, refusal_under}
use Rattle.event_under.specs.declared.event_under_form.error.EventUnderError.TheVariants as under_error
use Rattle.event_under.proofs.event_under_form.Fitting.{assumed_fit, can_show_on}
use Rattle.event_under.proofs.event_under_form.Refusing.{form_refused, never_over, none_refused, refused_by, under_over, under_refused}
use Rattle.event_under.proofs.event_under_form.comparison.compare_events_under.Goals as goal

pub questions_of-requires-clause-asked : goal.questions_of-requires-clause-asked
questions_of-requires-clause-asked c =
    let e = c.ask_pairs.new.events in
    let p = c.args.compared.now in
    subst (AreAsked (side_of_both e) e.events p.cut p.pairs.now) (sym c.as_slice-asked.ensures.value) c.in_ok-obligations.ensures.asked

pub findings_of-requires-clause-from : goal.findings_of-requires-clause-from
findings_of-requires-clause-from c =
    let old = c.args.events.now in
    let e = c.ask_pairs.new.events in
    let p = c.args.compared.now in
    let later = c.in_ok-obligations.ensures.later in
    let separated : AreSeparated e c.args.aparts.now = separated_stay old e c.args.aparts.now c.keeps.ensures.kept.events later.left later.right later.count later.grows c.requires.separated in
    let plain : AreAskedFrom e c.args.aparts.now p c.as_slice-asked.result.now =
    subst (AreAskedFrom e c.args.aparts.now p) (sym c.as_slice-asked.ensures.value)
    (asked_from old e later c.args.aparts.now p c.in_ok-obligations.obligations.items (compared_later old e later p c.requires.compared) c.requires.pairs c.in_ok-obligations.ensures.within separated c.in_ok-obligations.ensures.asked) in
    can_show_on e p c.args.premise.now _ c.requires.premise refl plain c.in_ok-questions.ensures.asked

pub returns-clause-fits : goal.returns-clause-fits
returns-clause-fits c =
    let old = c.args.events.now in
    let e = c.ask_pairs.new.events in
    let p = c.args.compared.now in
    assumed_fit e c.findings_of.new.events c.in_ok-findings.ensures.later c.keeps-2.ensures.kept c.keeps-2.ensures.events p c.args.premise.now c.args.conflicts _ refl (compared_later old e c.in_ok-obligations.ensures.later p c.requires.compared) c.in_ok-questions.ensures.asked c.in_ok-findings.findings
    c.in_ok-findings.ensures.found

pub returns-clause-light : goal.returns-clause-light
returns-clause-light c =
    let old = c.args.events.now in
    let e = c.ask_pairs.new.events in
    let pairs = c.args.compared.now.pairs.now in
    let later = c.in_ok-obligations.ensures.later in (
      record {
        later = later_trans old e c.findings_of.new.events later c.in_ok-findings.ensures.later;
        within = c.in_ok-findings.ensures.within;
        counts = counted_on old e c.findings_of.new.events pairs c.in_ok-obligations.ensures.counted c.in_ok-findings.ensures.counted;
      },
      subst (λ (s : EventSide (Either ℕ ℕ)). IsLightAtNodes c.args.premise.now.weight s pairs) (sym (side_same old e later.left later.right)) c.in_ok-questions.ensures.asked.light,
    )

pub returns-in_err-obligations-clause-over : goal.returns-in_err-obligations-clause-over
returns-in_err-obligations-clause-over c =
    refused_by (λ r. r ≡ Err under_error.AssumptionTooLarge → ArePairsOver c.args.premise.now.weight c.args.compared.now.pairs.now c.args.events.now c.ask_pairs.new.events) c.from_residual.result (refusal_of c.in_err-obligations.field-0.0) c.from_residual.ensures.1
    (never_over (ArePairsOver c.args.premise.now.weight c.args.compared.now.pairs.now c.args.events.now c.ask_pairs.new.events) c.in_err-obligations.field-0.0)

pub returns-in_err-questions-clause-over : goal.returns-in_err-questions-clause-over
returns-in_err-questions-clause-over c =
    let old = c.args.events.now in
    let e = c.ask_pairs.new.events in
    let pairs = c.args.compared.now.pairs.now in
    let weight = c.args.premise.now.weight in
    let asked = c.in_ok-obligations.ensures in
    let error = c.in_err-questions.field-0.0 in
    refused_by (λ r. r ≡ Err under_error.AssumptionTooLarge → ArePairsOver weight pairs old e) c.from_residual-in_err-questions.result (refusal_under error) c.from_residual-in_err-questions.ensures.1
    (under_over (ArePairsOver weight pairs old e) error (λ same. (
      record { later = asked.later; within = asked.within; counts = asked.counted },
      subst (λ (s : EventSide (Either ℕ ℕ)). IsOverAtNodes weight s pairs) (sym (side_same old e asked.later.left asked.later.right)) (c.in_err-questions.ensures.over (ap Err same)),
    )))

pub returns-in_err-findings-clause-over : goal.returns-in_err-findings-clause-over
returns-in_err-findings-clause-over c =
    refused_by (λ r. r ≡ Err under_error.AssumptionTooLarge → ArePairsOver c.args.premise.now.weight c.args.compared.now.pairs.now c.args.events.now c.findings_of.new.events) c.from_residual-in_err-findings.result (refusal_of c.in_err-findings.field-0.0) c.from_residual-in_err-findings.ensures.1
    (never_over (ArePairsOver c.args.premise.now.weight c.args.compared.now.pairs.now c.args.events.now c.findings_of.new.events) c.in_err-findings.field-0.0)

pub returns-clause-over : goal.returns-clause-over
returns-clause-over c is = cc

pub returns-in_err-obligations-clause-refused : goal.returns-in_err-obligations-clause-refused
returns-in_err-obligations-clause-refused c =
    let old = c.args.events.now in
    let pairs = c.args.compared.now.pairs.now in
    let error = c.in_err-obligations.field-0.0 in
    refused_by (AreRefusedUnder pairs old) c.from_residual.result (refusal_of error) c.from_residual.ensures.1 (form_refused old pairs error (stopped_told old pairs _ _ (λ e is. ap Err (error_is is)) c.in_err-obligations.ensures.stopped))

pub returns-in_err-questions-clause-refused : goal.returns-in_err-questions-clause-refused
returns-in_err-questions-clause-refused c =
    let error = c.in_err-questions.field-0.0 in
    refused_by (AreRefusedUnder c.args.compared.now.pairs.now c.args.events.now) c.from_residual-in_err-questions.result (refusal_under error) c.from_residual-in_err-questions.ensures.1 (under_refused c.args.events.now c.args.compared.now.pairs.now error)

pub returns-in_err-findings-clause-refused : goal.returns-in_err-findings-clause-refused
returns-in_err-findings-clause-refused c =
    let old = c.args.events.now in
    let e = c.ask_pairs.new.events in
    let pairs = c.args.compared.now.pairs.now in
    let error = c.in_err-findings.field-0.0 in
    refused_by (AreRefusedUnder pairs old) c.from_residual-in_err-findings.result (refusal_of error) c.from_residual-in_err-findings.ensures.1
    (form_refused old pairs error (never_again old e c.keeps.ensures.kept c.requires.within.starts c.in_ok-obligations.ensures.later c.keeps-2.ensures.kept c.keeps-2.ensures.once c.in_ok-obligations.ensures.within pairs c.in_ok-obligations.ensures.counted _ _ (λ f is. ap Err (error_is is)) c.in_err-findings.ensures.refused))

pub returns-clause-refused : goal.returns-clause-refused
returns-clause-refused c = none_refused c.args.events.now c.args.compared.now.pairs.now c.in_ok-findings.findings
