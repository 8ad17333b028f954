use Rattle.event_nodes.proofs.event_variables.NodePaths.{HasCounted}
use Rattle.event_nodes.proofs.event_variables.node_order.path_length.Given as goal

abbrev pub invariant-loop-at : goal.invariant-loop-at
invariant-loop-at l = HasCounted l.events.children l.node l.at l.steps

abbrev pub decreases-loop-at : goal.decreases-loop-at
decreases-loop-at l = l.at
