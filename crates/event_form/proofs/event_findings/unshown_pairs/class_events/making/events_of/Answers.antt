-- The class map's parts keep what event functions ask for.
use Rattle.std.proofs.Common.{Err, List, sym, ap, subst}
use Rattle.std.specs.Global.{Vec}
use Rattle.std.proofs.lemmas.Result.{err_from_is_err_and}
use Rattle.event_classes.specs.KeptApart.{Apart}
use Rattle.event_form.specs.event_agreement.pair_events.View.{EventsView}
use Rattle.event_form.specs.event_findings.unshown_pairs.class_events.Made.{events_in, AreEnablesCounted}
use Rattle.event_form.specs.event_findings.unshown_pairs.class_events.Separated.{AreSeparated}
use Rattle.event_form.proofs.event_findings.unshown_pairs.class_events.Counted.{enables_counted}
use Rattle.event_form.proofs.event_findings.unshown_pairs.class_events.Made.{made_events}
use Rattle.event_form.proofs.event_findings.unshown_pairs.class_events.Refused.{error_is, ok_refused, map_refused}
use Rattle.event_form.proofs.event_findings.unshown_pairs.class_events.Telling.{map_separated}
use Rattle.event_form.proofs.event_findings.unshown_pairs.class_events.making.events_of.Goals as goal

pub of_map-requires-clause-made : goal.of_map-requires-clause-made
of_map-requires-clause-made c = made_events c.args.left c.args.right c.in_ok-map.map c.requires.left_depths c.requires.right_depths c.in_ok-map.ensures.made

pub returns-clause-counted : goal.returns-clause-counted
returns-clause-counted c = subst AreEnablesCounted (sym c.of_map.ensures.events) (enables_counted c.args.left c.args.right c.in_ok-map.map c.keeps.ensures.sound c.keeps-2.ensures.sound c.in_ok-map.ensures.made)

pub returns-clause-separated : goal.returns-clause-separated
returns-clause-separated c =
    subst (λ (e : EventsView). AreSeparated e c.of_map.result.aparts.items) (sym c.of_map.ensures.events)
    (subst (AreSeparated (events_in c.in_ok-map.map)) (sym (ap (λ (v : Vec Apart). v.items) c.of_map.ensures.aparts)) (map_separated c.args.left c.args.right c.in_ok-map.map c.in_ok-map.ensures.made))

pub returns-clause-refused : goal.returns-clause-refused
returns-clause-refused c = ok_refused c.args.left c.args.right c.args.conflicts _

pub returns-in_err-map-clause-refused : goal.returns-in_err-map-clause-refused
returns-in_err-map-clause-refused c =
    let p = err_from_is_err_and c.from_residual.result c.from_residual.ensures.1 in
    rw (p.1, p.2) (map_refused c.args.left c.args.right c.args.conflicts _ _ (λ error is. ap Err (error_is is)) c.in_err-map.ensures.many c.in_err-map.ensures.large c.in_err-map.ensures.limit)
