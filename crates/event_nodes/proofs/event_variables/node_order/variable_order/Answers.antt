-- At two event nodes.
use Rattle.std.proofs.Common.{ℕ, ◌≤◌, length}
use Rattle.flat_net.proofs.Places.{All-at}
use Rattle.event_nodes.proofs.event_variables.NodePaths.{at_two_nodes, at_one_node}
use Rattle.event_nodes.proofs.event_variables.node_order.variable_order.Goals as goal

pub returns : goal.returns
returns c = at_two_nodes c.args.events.now c.keeps.ensures.events c.args.u c.args.v c.place-left_input.result c.place-right_input.result c.place-left_input.ensures c.place-right_input.ensures c.if-left_node-right_node.false c.node_order.result c.node_order.ensures

pub node_order-requires-clause-left : goal.node_order-requires-clause-left
node_order-requires-clause-left c = All-at (λ (p : ℕ × ℕ). p.1 ≤ length c.args.events.now.children) c.args.events.now.places c.args.u c.place-left_input.result c.place-left_input.ensures c.keeps.ensures.events.placed

pub node_order-requires-clause-right : goal.node_order-requires-clause-right
node_order-requires-clause-right c = All-at (λ (p : ℕ × ℕ). p.1 ≤ length c.args.events.now.children) c.args.events.now.places c.args.v c.place-right_input.result c.place-right_input.ensures c.keeps.ensures.events.placed

pub place-left_input-requires : goal.place-left_input-requires
place-left_input-requires c = c.requires.left

pub place-right_input-requires : goal.place-right_input-requires
place-right_input-requires c = c.requires.right

pub returns-then-left_node-right_node : goal.returns-then-left_node-right_node
returns-then-left_node-right_node c = at_one_node c.args.events.now c.keeps.ensures.events c.args.u c.args.v c.place-left_input.result c.place-right_input.result c.place-left_input.ensures c.place-right_input.ensures c.if-left_node-right_node.true c.cmp.result c.cmp.ensures
