use Rattle.event_nodes.proofs.event_variables.NodePaths.{HasClimbed}
use Rattle.event_nodes.proofs.event_variables.node_order.path_order.Given as goal

abbrev pub invariant-loop-left : goal.invariant-loop-left
invariant-loop-left l = HasClimbed l.events.children l.m l.n l.left l.right l.order

abbrev pub decreases-loop-left : goal.decreases-loop-left
decreases-loop-left l = l.left
