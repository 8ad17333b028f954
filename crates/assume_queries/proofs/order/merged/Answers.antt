-- Either order has its merge.
use Rattle.std.proofs.Common.{subst}
use Rattle.assume_queries.specs.declared.assume_answers.order.VariableOrder.{VariableOrder}
use Rattle.assume_queries.specs.assume_answers.Order.{AreOrdered}
use Rattle.assume_queries.proofs.order.merged.Goals as goal

pub merge_variables-requires : goal.merge_variables-requires
merge_variables-requires c =
    let left = subst (λ (o : VariableOrder). AreOrdered o c.args.table.now c.args.left.now) c.in-Shifts.is c.requires.left in
    let right = subst (λ (o : VariableOrder). AreOrdered o c.args.table.now c.args.right.now) c.in-Shifts.is c.requires.right in
    record { left = record { within = left.within; ordered = left.ordered }; right = record { within = right.within; ordered = right.ordered } }

pub merge_cycles-requires : goal.merge_cycles-requires
merge_cycles-requires c =
    let left = subst (λ (o : VariableOrder). AreOrdered o c.args.table.now c.args.left.now) c.in-Cycles.is c.requires.left in
    let right = subst (λ (o : VariableOrder). AreOrdered o c.args.table.now c.args.right.now) c.in-Cycles.is c.requires.right in
    record { left = record { within = left.within; ordered = left.ordered }; right = record { within = right.within; ordered = right.ordered } }
