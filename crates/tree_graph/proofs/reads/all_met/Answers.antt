use Rattle.std.proofs.Common.{arith}
use Rattle.flat_net.specs.declared.signals.Signal.{Signal}
use Rattle.tree_graph.specs.Walking.{IsMet}
use Rattle.tree_graph.proofs.Lists.{all_more}
use Rattle.tree_graph.proofs.reads.all_met.Goals as goal

pub loop-signal-preserved : goal.loop-signal-preserved
loop-signal-preserved c =
    all_more (λ (f : Signal). IsMet c.args.memo.now (c.args.shift, f.0)) c.args.signals.now c.loop-signal.signal-index _ c.loop-signal.invariant c.loop-signal-test.true (c.is_met.ensures c.if-not-is_met.false)

pub returns : goal.returns
returns c = λ h k d inside. c.loop-signal.invariant k d (omega (arith, inside, c.loop-signal-test.false))
