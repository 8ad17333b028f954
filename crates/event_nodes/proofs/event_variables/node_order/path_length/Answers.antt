-- One step up.
use Rattle.std.proofs.Common.{arith}
use Rattle.event_nodes.proofs.event_variables.NodePaths.{counted_more, counted_all}
use Rattle.event_nodes.proofs.event_variables.node_order.path_length.Goals as goal

pub loop-at-preserved : goal.loop-at-preserved
loop-at-preserved c = counted_more c.args.events.now.children c.keeps.ensures.events.is_tree c.args.node c.loop-at.at c.loop-at.steps c.step-parent.result.0 c.step-parent.result.1 c.loop-at.invariant c.loop-at-test.true c.step-parent.ensures

pub returns : goal.returns
returns c = counted_all c.args.events.now.children c.keeps.ensures.events.is_tree c.args.node c.loop-at.at c.loop-at.steps c.loop-at.invariant c.loop-at-test.false

pub step-parent-requires-clause-below_root : goal.step-parent-requires-clause-below_root
step-parent-requires-clause-below_root c = c.loop-at-test.true

pub step-parent-requires-clause-made : goal.step-parent-requires-clause-made
step-parent-requires-clause-made c = c.loop-at.invariant.made

pub overflow_add-steps : goal.overflow_add-steps
overflow_add-steps c = omega (arith, c.loop-at.invariant.few, c.loop-at-test.true, c.ranges.node.fits)

pub loop-at-smaller : goal.loop-at-smaller
loop-at-smaller c =
    let low = c.keeps.ensures.events.is_tree _ c.step-parent.result.0 c.step-parent.result.1 c.step-parent.ensures in
    omega (arith, low, c.loop-at-test.true)
