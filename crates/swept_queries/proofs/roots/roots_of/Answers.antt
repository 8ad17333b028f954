use Rattle.std.proofs.Common.{arith}
use Rattle.swept_queries.proofs.Listed.{roots_for-step}
use Rattle.swept_queries.proofs.roots.roots_of.Goals as goal

pub loop-i-preserved : goal.loop-i-preserved
loop-i-preserved c =
    roots_for-step c.args.asked.now c.loop-i.i _ c.loop-i.roots.items c.put_three.new.roots.items (omega (arith, c.loop-i-test.true)) c.loop-i.invariant c.in_ok-put_three.ensures
