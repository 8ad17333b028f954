use Rattle.std.proofs.Common.{arith}
use Rattle.sec_setup.proofs.ports.Numbering.{orders_from, few_shared}
use Rattle.sec_setup.proofs.interfaces.interface.Goals as goal

pub orders_of-requires : goal.orders_of-requires
orders_of-requires c =
    let shared = few_shared c.args.a.now c.args.b.now c.in_ok-shared.shared c.in_ok-shared.ensures.ok.1 in
    let left = c.requires.left.few in
    let right = c.requires.right.few in
    omega (arith, shared, left, right)

pub returns-clause-ok : goal.returns-clause-ok
returns-clause-ok c = (
  c.in_ok-shared.ensures.ok.0,
  orders_from c.args.a.now c.args.b.now c.in_ok-shared.shared c.in_ok-shared.ensures.ok.1 c.in_ok-orders.orders c.in_ok-orders.ensures,
)
