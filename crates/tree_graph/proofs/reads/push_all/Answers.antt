use Rattle.std.proofs.Common.{◌++◌, map}
use Rattle.flat_net.specs.declared.signals.Signal.{Signal}
use Rattle.tree_graph.proofs.Lists.{push_more, push_done}
use Rattle.tree_graph.proofs.reads.push_all.Goals as goal

pub loop-signal-preserved : goal.loop-signal-preserved
loop-signal-preserved c =
    push_more (λ (f : Signal). (c.args.shift, f.0)) c.args.signals.now (c.args.stack.now.items ++ map (λ (f : Signal). (c.args.shift, f.0)) c.args.signals.now) c.loop-signal.stack.items c.push.new.stack.items c.loop-signal.signal-index _ c.loop-signal-test.true
    c.loop-signal.invariant c.in_ok-push.ensures

pub returns : goal.returns
returns c =
    push_done (λ (f : Signal). (c.args.shift, f.0)) c.args.signals.now (c.args.stack.now.items ++ map (λ (f : Signal). (c.args.shift, f.0)) c.args.signals.now) c.loop-signal.stack.items c.loop-signal.signal-index c.loop-signal-test.false c.loop-signal.invariant
