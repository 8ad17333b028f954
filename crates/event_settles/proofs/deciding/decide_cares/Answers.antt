-- One more is decided.
use Rattle.std.proofs.Common.{sym, arith}
use Rattle.event_settles.proofs.Decisions.{decided_next}
use Rattle.event_settles.proofs.deciding.decide_cares.Goals as goal

pub loop-i-preserved : goal.loop-i-preserved
loop-i-preserved c =
    decided_next c.args.aig.now c.args.conflicts c.args.asked.now c.loop-i.i c.index-asked-i.result c.loop-i.cares c.push.new.self c.in_ok-decide_care.field-0 (omega (arith, c.loop-i-test.true)) (sym c.index-asked-i.is) c.in_ok-push.ensures.ok c.loop-i.invariant c.in_ok-decide_care.ensures
