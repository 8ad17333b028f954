use Rattle.std.proofs.Common.{◌+◌, sym, subst, arith}
use Rattle.lrat_core.specs.certificate_writer.Hinting.{IsWithin, all_known, falsified_by}
use Rattle.lrat_core.proofs.certificate_writer.Trails.{within_at, open_within, open_free, falsified_push, still_consistent}
use Rattle.lrat_core.proofs.certificate_writer.Hinted.{met_hinted, false_hinted, open_hinted}
use Rattle.lrat_core.proofs.certificate_writer.hints.put_hint.Goals as goal

pub look_at-requires-clause-within : goal.look_at-requires-clause-within
look_at-requires-clause-within c =
    subst (IsWithin c.args.trail.now.variables) (sym c.clause.ensures) (within_at c.args.trail.now.variables (all_known c.args.known.now) c.args.number c.requires.within)

pub returns-in-Met-clause-hinted : goal.returns-in-Met-clause-hinted
returns-in-Met-clause-hinted c =
    met_hinted (all_known c.args.known.now) c.args.number (falsified_by c.args.trail.now.entries) c.clause.result.now c.clause.ensures c.args.text.now.items c.in-Met.ensures c.requires.consistent

pub returns-in_ok-put-in-False-clause-hinted : goal.returns-in_ok-put-in-False-clause-hinted
returns-in_ok-put-in-False-clause-hinted c =
    false_hinted (all_known c.args.known.now) c.args.number (falsified_by c.args.trail.now.entries) c.clause.result.now c.clause.ensures c.args.text.now.items c.put_number.new.text.items c.put.new.text.items (c.from.result + 1)
    (falsified_by c.args.trail.now.entries) (omega (arith, c.from.ensures)) c.in_ok-put_number-in-False.ensures.ok c.in_ok-put-in-False.ensures.ok c.in-False.ensures.0 c.in-False.ensures.1

pub push-requires-clause-above : goal.push-requires-clause-above
push-requires-clause-above c =
    (open_within c.args.trail.now.variables (falsified_by c.args.trail.now.entries) c.clause.result.now c.in-Open.literal
    (subst (IsWithin c.args.trail.now.variables) (sym c.clause.ensures) (within_at c.args.trail.now.variables (all_known c.args.known.now) c.args.number c.requires.within)) c.in-Open.ensures.1).0

pub push-requires-clause-within : goal.push-requires-clause-within
push-requires-clause-within c =
    (open_within c.args.trail.now.variables (falsified_by c.args.trail.now.entries) c.clause.result.now c.in-Open.literal
    (subst (IsWithin c.args.trail.now.variables) (sym c.clause.ensures) (within_at c.args.trail.now.variables (all_known c.args.known.now) c.args.number c.requires.within)) c.in-Open.ensures.1).1

pub push-requires-clause-free : goal.push-requires-clause-free
push-requires-clause-free c = open_free c.args.trail.now.entries c.clause.result.now c.in-Open.literal c.in-Open.ensures.0 c.in-Open.ensures.1

pub returns-in_ok-push-in-Open-clause-hinted : goal.returns-in_ok-push-in-Open-clause-hinted
returns-in_ok-push-in-Open-clause-hinted c =
    let f = falsified_by c.args.trail.now.entries in
    open_hinted (all_known c.args.known.now) c.args.number f c.clause.result.now c.clause.ensures c.args.text.now.items c.put_number-in-Open.new.text.items c.put-in-Open.new.text.items (c.from-in-Open.result + 1) c.in-Open.literal
    (falsified_by c.push.new.self.entries) (omega (arith, c.from-in-Open.ensures)) c.in_ok-put_number-in-Open.ensures.ok c.in_ok-put-in-Open.ensures.ok c.in-Open.ensures.0 c.in-Open.ensures.1
    (falsified_push c.args.trail.now.entries c.in-Open.literal c.push.new.self.entries c.in_ok-push-in-Open.ensures.entries)
    (still_consistent f c.clause.result.now c.in-Open.literal c.requires.consistent c.in-Open.ensures.1)
