-- The class map is made; or why not.
use Rattle.std.proofs.Common.{refl}
use Rattle.plain_check.proofs.under_base.compare_base.Refusals.{refused_by}
use Rattle.event_check.specs.event_answers.Laws.{HaveClassesGiven}
use Rattle.event_check.specs.event_answers.Reached.{ReachesPairs}
use Rattle.event_check.proofs.event_answers.Stopping.{reached_first, reached_then, setup_askable, unclassed_stops}
use Rattle.event_check.proofs.event_answers.Refusals.{can_tell, map_refused}
use Rattle.event_check.proofs.event_answers.reaching.reach_set_up.Goals as goal

pub events_of-requires-clause-left_depths : goal.events_of-requires-clause-left_depths
events_of-requires-clause-left_depths c = c.requires.setup.is.left.depths

pub events_of-requires-clause-right_depths : goal.events_of-requires-clause-right_depths
events_of-requires-clause-right_depths c = c.requires.setup.is.right.depths

pub events_of-requires-clause-left_classes : goal.events_of-requires-clause-left_classes
events_of-requires-clause-left_classes c = c.requires.setup.is.left.none

pub events_of-requires-clause-right_classes : goal.events_of-requires-clause-right_classes
events_of-requires-clause-right_classes c = c.requires.setup.is.right.none

pub returns-in-Ok : goal.returns-in-Ok
returns-in-Ok c =
    let a = c.args.a.now in
    let b = c.args.b.now in
    let s = c.args.setup in
    let e = c.in-Ok.separated.events in
    let k = c.keeps-in-Ok.ensures.kept in
    let given : HaveClassesGiven s e = record { left = c.in-Ok.ensures.left; right = c.in-Ok.ensures.right } in
    let left_is = c.in_ok-latches.ensures.0 in
    let right_is = c.in_ok-latches.ensures.1 in
    record {
      reached = reached_then a b c.args.settings.now c.requires.left_known c.requires.right_known s c.requires.setup e given k.left_sound k.right_sound k.left k.right;
      counted = c.in-Ok.ensures.counted;
      separated = c.in-Ok.ensures.separated;
      askable = setup_askable a b c.args.settings.now c.requires.left_known c.requires.right_known s c.requires.setup e given c.keeps.ensures.sound c.keeps-2.ensures.sound _ _ refl left_is right_is refl refl;
      listed = c.requires.setup.pairs;
      columns = c.requires.setup.columns;
      cut = c.is_cut-cut.ensures;
    }

pub unclassed-requires : goal.unclassed-requires
unclassed-requires c =
    let left_is = c.in_ok-latches.ensures.0 in
    let right_is = c.in_ok-latches.ensures.1 in
    can_tell c.args.setup.left c.args.setup.right (record { columns = c.args.setup.columns; left = c.in_ok-latches.latches.0; right = c.in_ok-latches.latches.1 }) c.args.settings.now.conflicts left_is right_is c.in-Err.error c.in-Err.ensures.refused

pub returns-in_err-at-in-Err : goal.returns-in_err-at-in-Err
returns-in_err-at-in-Err c =
    let a = c.args.a.now in
    let b = c.args.b.now in
    let s = c.args.setup in
    let at = reached_first a b c.args.settings.now c.requires.left_known c.requires.right_known s c.requires.setup c.keeps.ensures.sound c.keeps-2.ensures.sound c.keeps.ensures.circuit c.keeps-2.ensures.circuit in
    refused_by (ReachesPairs a b c.args.settings.now) c.from_residual-in_err-at-in-Err.result c.in_err-at-in-Err.field-0.0 c.from_residual-in_err-at-in-Err.ensures.1
    (map_refused a b c.args.settings.now c.requires.matches s (record { columns = s.columns; left = c.in_ok-latches.latches.0; right = c.in_ok-latches.latches.1 }) at c.in-Err.error c.in-Err.ensures.refused c.in_err-at-in-Err.field-0.0 c.in_err-at-in-Err.ensures)

pub returns-in_ok-at-in-Err : goal.returns-in_ok-at-in-Err
returns-in_ok-at-in-Err c =
    let a = c.args.a.now in
    let b = c.args.b.now in
    let s = c.args.setup in
    let left_is = c.in_ok-latches.ensures.0 in
    let right_is = c.in_ok-latches.ensures.1 in
    let at = reached_first a b c.args.settings.now c.requires.left_known c.requires.right_known s c.requires.setup c.keeps.ensures.sound c.keeps-2.ensures.sound c.keeps.ensures.circuit c.keeps-2.ensures.circuit in
    unclassed_stops a b c.args.settings.now c.requires.left_known c.requires.right_known s c.requires.setup (record { columns = s.columns; left = c.in_ok-latches.latches.0; right = c.in_ok-latches.latches.1 }) left_is right_is at
    c.in-Err.error c.in-Err.ensures.refused c.in_ok-at-in-Err.at c.in_ok-at-in-Err.ensures
