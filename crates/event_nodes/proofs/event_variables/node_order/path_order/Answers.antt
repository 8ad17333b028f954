-- One step up on both sides.
use Rattle.std.proofs.Common.{sym, subst}
use Rattle.event_nodes.proofs.event_variables.NodePaths.{HasClimbed, left_below, right_below, parent_low, climbed_more, climbed_all}
use Rattle.event_nodes.proofs.event_variables.node_order.path_order.Goals as goal

pub step-left_parent-requires-clause-below_root : goal.step-left_parent-requires-clause-below_root
step-left_parent-requires-clause-below_root c = left_below c.args.events.now.children c.keeps.ensures.events.is_tree c.args.m c.args.n c.loop-left.left c.loop-left.right c.loop-left.order c.loop-left.invariant c.loop-left-test.true

pub step-right_parent-requires-clause-below_root : goal.step-right_parent-requires-clause-below_root
step-right_parent-requires-clause-below_root c = right_below c.args.events.now.children c.keeps.ensures.events.is_tree c.args.m c.args.n c.loop-left.left c.loop-left.right c.loop-left.order c.loop-left.invariant c.loop-left-test.true

pub loop-left-smaller : goal.loop-left-smaller
loop-left-smaller c = (parent_low c.args.events.now.children c.keeps.ensures.events.is_tree c.loop-left.left c.step-left_parent.result.0 c.step-left_parent.result.1 (left_below c.args.events.now.children c.keeps.ensures.events.is_tree c.args.m c.args.n c.loop-left.left c.loop-left.right c.loop-left.order c.loop-left.invariant c.loop-left-test.true) c.step-left_parent.ensures).0

pub loop-left-preserved : goal.loop-left-preserved
loop-left-preserved c =
    subst (HasClimbed c.args.events.now.children c.args.m c.args.n c.step-left_parent.result.0 c.step-right_parent.result.0) (sym c.first_of-order.ensures)
    (climbed_more c.args.events.now.children c.keeps.ensures.events.is_tree c.args.m c.args.n c.loop-left.left c.loop-left.right c.loop-left.order c.step-left_parent.result.0 c.step-left_parent.result.1 c.step-right_parent.result.0 c.step-right_parent.result.1 c.loop-left.invariant c.loop-left-test.true c.step-left_parent.ensures c.step-right_parent.ensures)

pub returns : goal.returns
returns c = climbed_all c.args.events.now.children c.keeps.ensures.events.is_tree c.args.m c.args.n c.loop-left.left c.loop-left.right c.loop-left.order c.loop-left.invariant c.loop-left-test.false
