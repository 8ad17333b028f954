-- Without a cycle of latches each signal has a depth.
use Rattle.std.proofs.Common.{arith}
use Rattle.class_search.proofs.event_order.LatchDepths.{depth_told}
use Rattle.class_search.proofs.event_order.SignalDepths.{has_depth}
use Rattle.class_search.proofs.event_order.depths.signal_depth.Goals as goal

pub depth-requires : goal.depth-requires
depth-requires c = omega (arith, c.requires.graph.graph.size, c.requires.signal)

pub unreachable-requires : goal.unreachable-requires
unreachable-requires c = has_depth c.args.net.now c.args.graph.now c.requires.graph c.requires.depths c.args.s.0 c.in_default.ensures.none

pub returns : goal.returns
returns c = depth_told c.args.net.now c.args.graph.now c.requires.graph c.args.s.0 _ c.in-Some.ensures.depth
