-- Without a cycle of latches each signal has a depth.
use Rattle.std.proofs.Common.{arith}
use Rattle.class_search.proofs.event_order.LatchDepths.{depth_told}
use Rattle.event_setup.proofs.SignalDepths.{has_depth}
use Rattle.event_setup.proofs.depths.depth_of.Goals as goal

pub depth-requires : goal.depth-requires
depth-requires c = omega (arith, c.requires.graph.graph.size)

pub unreachable-requires : goal.unreachable-requires
unreachable-requires c = has_depth c.args.net.now c.args.graph.now c.requires.graph c.requires.acyclic c.args.s.0 c.in_default.ensures.none

pub returns : goal.returns
returns c = depth_told c.args.net.now c.args.graph.now c.requires.graph c.args.s.0 _ c.in-Some.ensures.depth
