-- One signal's depth more.
use Rattle.std.proofs.Common.{length, ap, arith}
use Rattle.circuit_theory.specs.declared.Mode.TheVariants.{Event}
use Rattle.class_search.proofs.event_order.SignalDepths.{one_depth_more, depths_to_all}
use Rattle.class_search.proofs.event_order.depths.signal_depths.Goals as goal

pub signal_depth-requires-clause-graph : goal.signal_depth-requires-clause-graph
signal_depth-requires-clause-graph c = c.in_ok-graph.ensures.in_mode Event c.requires.marks

pub loop-signal-init : goal.loop-signal-init
loop-signal-init c = record { each = ap length c.new-depths.ensures; are = λ s below. absurd (omega (arith, below)) }

pub loop-signal-preserved : goal.loop-signal-preserved
loop-signal-preserved c = one_depth_more c.args.net.now c.loop-signal.signal c.signal_depth.result c.loop-signal.depths c.push.new.self c.loop-signal.invariant c.signal_depth.ensures c.in_ok-push.ensures.ok

pub returns : goal.returns
returns c = depths_to_all c.args.net.now c.loop-signal.signal c.loop-signal.depths (omega (arith, c.loop-signal-test.false, c.size-signal-end.ensures)) c.loop-signal.invariant
