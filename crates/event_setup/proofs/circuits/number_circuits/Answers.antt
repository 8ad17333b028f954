-- Each input has a number of its own.
use Rattle.event_setup.proofs.Setups.{is_order}
use Rattle.event_setup.proofs.circuits.number_circuits.Goals as goal

pub begun-requires-clause-order : goal.begun-requires-clause-order
begun-requires-clause-order c = is_order c.args.cut.left.net c.in_ok-orders.field-0.columns c.in_ok-orders.field-0.orders.left c.in_ok-orders.field-0.orders.right c.in_ok-orders.ensures.orders.left

pub begun-requires-2-clause-order : goal.begun-requires-2-clause-order
begun-requires-2-clause-order c = is_order c.args.cut.right.net c.in_ok-orders.field-0.columns c.in_ok-orders.field-0.orders.right c.in_ok-orders.field-0.orders.left c.in_ok-orders.ensures.orders.right

pub returns-clause-circuits : goal.returns-clause-circuits
returns-clause-circuits c = record { orders = c.in_ok-orders.field-0.orders; numbered = c.in_ok-orders.ensures.orders; left = c.in_ok-left.ensures; right = c.in_ok-right.ensures }
