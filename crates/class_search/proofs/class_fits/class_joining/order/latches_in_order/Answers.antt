-- Both circuits mark their enabled latches.
use Rattle.std.proofs.Common.{subst}
use Rattle.std.specs.Prelude.{IfOk, All}
use Rattle.flat_net.specs.View.{NetView}
use Rattle.class_search.specs.event_order.Order.{IsTagOf, IsTagOrder}
use Rattle.class_search.proofs.class_fits.class_joining.Bounds.{marked}
use Rattle.class_search.proofs.class_fits.class_joining.order.latches_in_order.Goals as goal

pub latch_order-requires : goal.latch_order-requires
latch_order-requires c = record {
  left = marked c.args.left.now c.net.result.now c.enabled.result.now c.net.ensures c.enabled.ensures c.keeps.ensures.circuit c.requires.left;
  right = marked c.args.right.now c.net-2.result.now c.enabled-2.result.now c.net-2.ensures c.enabled-2.ensures c.keeps-2.ensures.circuit c.requires.right;
}

pub returns-clause-named : goal.returns-clause-named
returns-clause-named c =
    subst (λ (n : NetView). IfOk c.latch_order.result (λ tags. All (IsTagOf n c.args.right.now.net) tags.items)) c.net.ensures
    (subst (λ (n : NetView). IfOk c.latch_order.result (λ tags. All (IsTagOf c.net.result.now n) tags.items)) c.net-2.ensures c.latch_order.ensures.named)

pub returns-clause-order : goal.returns-clause-order
returns-clause-order c =
    subst (λ (n : NetView). IfOk c.latch_order.result (λ tags. IsTagOrder n c.args.right.now.net tags.items)) c.net.ensures
    (subst (λ (n : NetView). IfOk c.latch_order.result (λ tags. IsTagOrder c.net.result.now n tags.items)) c.net-2.ensures c.latch_order.ensures.order)
