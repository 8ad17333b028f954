-- What is found, or why the pairs can't be unfolded.
use Rattle.std.proofs.Common.{List, refl, sym, subst}
use Rattle.std.specs.List.{All}
use Rattle.sec_setup.specs.declared.ports.pairs.SignalPair.{SignalPair}
use Rattle.event_check.specs.event_answers.Asked.{IsPairOf}
use Rattle.event_check.specs.event_answers.Finding.{AreNotUnfolded, IsNamedFound, refusal_of}
use Rattle.event_form.specs.event_findings.unshown_pairs.class_events.Separated.{AreSeparated}
use Rattle.event_form.proofs.event_findings.unshown_pairs.class_events.Telling.{separated_stay}
use Rattle.event_comparison.proofs.Comparing.{pairs_later}
use Rattle.event_check.proofs.event_answers.Finding.{not_unfolded}
use Rattle.event_check.proofs.Finding.{found_named, pairs_found}
use Rattle.event_check.proofs.pairs.compare_pairs.Goals as goal

pub compare_events-requires-clause-pairs : goal.compare_events-requires-clause-pairs
compare_events-requires-clause-pairs c = subst (All (IsPairOf c.args.separated.now.events)) (sym c.as_slice.ensures) c.requires.askable.within

pub compare_events-requires-clause-compared : goal.compare_events-requires-clause-compared
compare_events-requires-clause-compared c = c.requires.askable.compared _ (c.as_slice.ensures, c.as_slice-2.ensures, refl, refl)

pub compare_events-requires-clause-within : goal.compare_events-requires-clause-within
compare_events-requires-clause-within c = c.requires.counted.limits

pub cares_of-requires-clause-separated : goal.cares_of-requires-clause-separated
cares_of-requires-clause-separated c =
    let later = c.in-Ok.ensures.counted.later in
    separated_stay c.args.separated.now.events c.compare_events.new.events c.as_slice-aparts.result.now c.keeps.ensures.kept.events later.left later.right later.count later.grows
    (subst (AreSeparated c.args.separated.now.events) (sym c.as_slice-aparts.ensures.value) c.requires.separated)

pub cares_of-requires-clause-pairs : goal.cares_of-requires-clause-pairs
cares_of-requires-clause-pairs c =
    pairs_later c.args.separated.now.events c.compare_events.new.events c.in-Ok.ensures.counted.later _ (subst (All (IsPairOf c.args.separated.now.events)) (sym c.as_slice.ensures) c.requires.askable.within)

pub cares_of-requires-clause-within : goal.cares_of-requires-clause-within
cares_of-requires-clause-within c = c.in-Ok.ensures.counted.within

pub named_findings-requires : goal.named_findings-requires
named_findings-requires c =
    found_named c.args.separated.now.events c.args.names.now c.args.asked.now c.requires.askable _ (c.as_slice.ensures, c.as_slice-2.ensures, refl, refl) c.keeps.ensures.kept c.compare_events.new.events c.args.conflicts c.in-Ok.findings
    c.in-Ok.ensures.counted c.in-Ok.ensures.fits

pub returns-in_ok-found-in-Ok : goal.returns-in_ok-found-in-Ok
returns-in_ok-found-in-Ok c =
    pairs_found c.args.separated.now.events c.args.names.now c.args.asked.now c.requires.askable _ (c.as_slice.ensures, c.as_slice-2.ensures, refl, refl) c.keeps.ensures.kept c.compare_events.new.events c.args.conflicts c.in-Ok.findings
    c.in-Ok.ensures.counted c.in-Ok.ensures.fits c.keeps.ensures.events c.requires.counted c.requires.separated.few c.keeps-in-Ok.ensures.kept c.keeps-in-Ok.ensures.once c.args.settles c.in_ok-cares-in-Ok.cares c.in_ok-cares-in-Ok.ensures c.in_ok-found-in-Ok.found
    (subst (λ count. IsNamedFound c.args.names.now c.in-Ok.findings count c.in_ok-cares-in-Ok.cares c.in_ok-found-in-Ok.found) c.classes-classes.ensures c.in_ok-found-in-Ok.ensures)

pub returns-in-Err : goal.returns-in-Err
returns-in-Err c =
    let e = c.args.separated.now.events in
    subst (AreNotUnfolded e.left e.right c.args.asked.now.pairs) (sym c.refusal_of.ensures)
    (subst (λ (ps : List SignalPair). AreNotUnfolded e.left e.right ps (refusal_of c.in-Err.error)) c.as_slice.ensures
    (not_unfolded e c.keeps.ensures.events c.requires.counted c.requires.separated.few _ c.in-Err.error c.in-Err.ensures.refused))
