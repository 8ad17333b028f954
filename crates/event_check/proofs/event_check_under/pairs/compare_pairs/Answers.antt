-- What is found, or why the pairs can't be compared.
use Rattle.std.proofs.Common.{refl, sym, subst, Err}
use Rattle.std.specs.List.{All}
use Rattle.event_setup.specs.event_meaning.event_meaning_under.CompareError.{CompareError}
use Rattle.event_check.specs.event_answers.Asked.{IsPairOf}
use Rattle.event_check.specs.event_answers.Finding.{IsNamedFound}
use Rattle.event_check.specs.event_check_under.event_answers_under.Pairs.{FindsPairsUnder}
use Rattle.event_form.specs.event_findings.unshown_pairs.class_events.Separated.{AreSeparated}
use Rattle.event_form.proofs.event_findings.unshown_pairs.class_events.Telling.{separated_stay}
use Rattle.event_comparison.proofs.Comparing.{pairs_later}
use Rattle.event_check.proofs.event_check_under.Finding.{found_named, found_refused, pairs_found}
use Rattle.event_check.proofs.event_check_under.pairs.compare_pairs.Goals as goal

pub compare_events_under-requires-clause-pairs : goal.compare_events_under-requires-clause-pairs
compare_events_under-requires-clause-pairs c = subst (All (IsPairOf c.args.separated.now.events)) (sym c.as_slice.ensures) c.requires.askable.within

pub compare_events_under-requires-clause-compared : goal.compare_events_under-requires-clause-compared
compare_events_under-requires-clause-compared c = c.requires.askable.compared _ (c.as_slice.ensures, c.as_slice-2.ensures, refl, refl)

pub compare_events_under-requires-clause-within : goal.compare_events_under-requires-clause-within
compare_events_under-requires-clause-within c = c.requires.counted.limits

pub cares_of-requires-clause-separated : goal.cares_of-requires-clause-separated
cares_of-requires-clause-separated c =
    let later = c.in-Ok.ensures.light.0.later in
    separated_stay c.args.separated.now.events c.compare_events_under.new.events c.as_slice-aparts.result.now c.keeps.ensures.kept.events later.left later.right later.count later.grows
    (subst (AreSeparated c.args.separated.now.events) (sym c.as_slice-aparts.ensures.value) c.requires.separated)

pub cares_of-requires-clause-pairs : goal.cares_of-requires-clause-pairs
cares_of-requires-clause-pairs c =
    pairs_later c.args.separated.now.events c.compare_events_under.new.events c.in-Ok.ensures.light.0.later _ (subst (All (IsPairOf c.args.separated.now.events)) (sym c.as_slice.ensures) c.requires.askable.within)

pub cares_of-requires-clause-within : goal.cares_of-requires-clause-within
cares_of-requires-clause-within c = c.in-Ok.ensures.light.0.within

pub named_findings-requires : goal.named_findings-requires
named_findings-requires c =
    found_named c.args.separated.now.events c.args.names.now c.args.asked.now c.requires.askable _ (c.as_slice.ensures, c.as_slice-2.ensures, refl, refl) c.keeps.ensures.kept c.compare_events_under.new.events c.args.premise.now c.requires.premise c.args.conflicts c.in-Ok.findings
    c.in-Ok.ensures.light c.in-Ok.ensures.fits

pub returns-in_ok-found-in-Ok : goal.returns-in_ok-found-in-Ok
returns-in_ok-found-in-Ok c =
    pairs_found c.args.separated.now.events c.args.names.now c.args.asked.now c.requires.askable _ (c.as_slice.ensures, c.as_slice-2.ensures, refl, refl) c.keeps.ensures.kept c.compare_events_under.new.events c.args.premise.now c.requires.premise c.args.conflicts c.in-Ok.findings
    c.in-Ok.ensures.light c.in-Ok.ensures.fits c.keeps.ensures.events c.requires.counted c.requires.separated.few c.keeps-in-Ok.ensures.kept c.keeps-in-Ok.ensures.once c.args.settles c.in_ok-cares-in-Ok.cares c.in_ok-cares-in-Ok.ensures c.in_ok-found-in-Ok.found
    (subst (λ count. IsNamedFound c.args.names.now c.in-Ok.findings count c.in_ok-cares-in-Ok.cares c.in_ok-found-in-Ok.found) c.classes-classes.ensures c.in_ok-found-in-Ok.ensures)

pub returns-in-Err : goal.returns-in-Err
returns-in-Err c =
    let e = c.args.separated.now.events in
    subst (λ (error : CompareError). FindsPairsUnder e.left e.right c.args.names.now c.args.asked.now c.args.premise.now c.args.conflicts c.args.settles (Err error)) (sym c.refusal_under.ensures)
    (found_refused e c.keeps.ensures.events c.requires.counted c.requires.separated.few c.args.names.now c.args.asked.now c.args.premise.now c.args.conflicts c.args.settles _ c.keeps-in-Err.ensures.kept c.keeps-in-Err.ensures.once _ c.as_slice.ensures
    c.in-Err.error _ refl c.in-Err.ensures.over c.in-Err.ensures.refused)
