-- Small numbers of the inputs of both nets.
use Rattle.std.proofs.Common.{◌+◌, ℕ, List, length, ap, subst, arith}
use Rattle.sec_base.specs.declared.basics.Orders.{Orders}
use Rattle.induct.specs.Inductions.{AreLowered}
use Rattle.induct.proofs.OwnNumbers.{inputs_few, orders_long, own_are}
use Rattle.induct.proofs.numbers.own_numbers.Goals as goal

pub overflow_cast-left : goal.overflow_cast-left
overflow_cast-left c = let few = inputs_few c.args.a.now c.keeps.ensures.sound c.requires.light.0 in let same = ap length c.inputs.ensures in omega (arith, few, same)

pub overflow_cast-bound : goal.overflow_cast-bound
overflow_cast-bound c = let few = inputs_few c.args.b.now c.keeps-2.ensures.sound c.requires.light.1 in let same = ap length c.inputs-2.ensures in omega (arith, few, same)

pub overflow_add-bound : goal.overflow_add-bound
overflow_add-bound c =
    let few = inputs_few c.args.a.now c.keeps.ensures.sound c.requires.light.0 in
    let few_b = inputs_few c.args.b.now c.keeps-2.ensures.sound c.requires.light.1 in
    let same = ap length c.inputs.ensures in
    let same_b = ap length c.inputs-2.ensures in
    omega (arith, few, few_b, same, same_b)

pub lowered-requires : goal.lowered-requires
lowered-requires c =
    let few = inputs_few c.args.a.now c.keeps.ensures.sound c.requires.light.0 in
    let few_b = inputs_few c.args.b.now c.keeps-2.ensures.sound c.requires.light.1 in
    let same = ap length c.inputs.ensures in
    let same_b = ap length c.inputs-2.ensures in
    let long = orders_long c.args.a.now c.args.b.now c.args.orders.now c.requires.orders in
    let here = ap length c.as_slice.ensures in
    omega (arith, few, few_b, same, same_b, long, here)

pub overflow_add-bound-2 : goal.overflow_add-bound-2
overflow_add-bound-2 c =
    let few = inputs_few c.args.a.now c.keeps.ensures.sound c.requires.light.0 in
    let few_b = inputs_few c.args.b.now c.keeps-2.ensures.sound c.requires.light.1 in
    let same = ap length c.inputs.ensures in
    let same_b = ap length c.inputs-2.ensures in
    omega (arith, few, few_b, same, same_b)

pub lowered-requires-2 : goal.lowered-requires-2
lowered-requires-2 c =
    let few = inputs_few c.args.a.now c.keeps.ensures.sound c.requires.light.0 in
    let few_b = inputs_few c.args.b.now c.keeps-2.ensures.sound c.requires.light.1 in
    let same = ap length c.inputs.ensures in
    let same_b = ap length c.inputs-2.ensures in
    let long = orders_long c.args.a.now c.args.b.now c.args.orders.now c.requires.orders in
    let here = ap length c.as_slice-2.ensures in
    omega (arith, few, few_b, same, same_b, long, here)

pub returns : goal.returns
returns c =
    let left : ℕ = length c.inputs.result.now in
    let bound : ℕ = left + length c.inputs-2.result.now in
    let same = ap length c.inputs.ensures in
    let same_b = ap length c.inputs-2.ensures in
    let made : Orders = record { left = c.in_ok-lowered.field-0; right = c.in_ok-lowered-2.field-0 } in
    own_are c.args.a.now c.args.b.now c.keeps.ensures.sound c.keeps-2.ensures.sound c.requires.light.0 c.requires.light.1 c.args.orders.now made c.requires.orders bound (bound + left) (omega (arith, same, same_b)) (omega (arith, same))
    (subst (λ (l : List ℕ). AreLowered bound bound l made.left) c.as_slice.ensures c.in_ok-lowered.ensures) (subst (λ (l : List ℕ). AreLowered bound (bound + left) l made.right) c.as_slice-2.ensures c.in_ok-lowered-2.ensures)
