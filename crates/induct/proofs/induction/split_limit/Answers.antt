-- The partition of the moment.
use Rattle.std.proofs.Common.{ℕ, List, length, refl, sym, ap, subst, arith}
use Rattle.block_refine.specs.latch_blocks.Blocks.{AreInOrder}
use Rattle.induct.specs.Inductions.{AreMembers}
use Rattle.induct.proofs.Inducing.{split_told}
use Rattle.induct.proofs.OverBlocks.{latches_few}
use Rattle.induct.proofs.induction.split_limit.Goals as goal

pub members-requires-clause-order : goal.members-requires-clause-order
members-requires-clause-order c = subst AreInOrder (sym c.as_slice.ensures) c.requires.limit.way.in_order

pub members-requires-clause-few : goal.members-requires-clause-few
members-requires-clause-few c =
    let few = latches_few c.args.a.now c.args.b.now c.keeps.ensures.sound c.keeps-2.ensures.sound c.requires.light.0 c.requires.light.1 in
    let here = ap length c.as_slice.ensures in
    omega (arith, few, here, c.requires.limit.way.each)

pub members-requires-clause-left : goal.members-requires-clause-left
members-requires-clause-left c =
    let here = ap length c.as_slice.ensures in
    let count = ap length c.latches-count.ensures in
    omega (arith, here, count, c.requires.limit.way.each)

pub tag_at-requires : goal.tag_at-requires
tag_at-requires c =
    let few = latches_few c.args.a.now c.args.b.now c.keeps.ensures.sound c.keeps-2.ensures.sound c.requires.light.0 c.requires.light.1 in
    omega (arith, few, c.requires.limit.way.each, c.requires.limit.inside)

pub tag_at-requires-2 : goal.tag_at-requires-2
tag_at-requires-2 c =
    let few = latches_few c.args.a.now c.args.b.now c.keeps.ensures.sound c.keeps-2.ensures.sound c.requires.light.0 c.requires.light.1 in
    omega (arith, few, c.requires.limit.way.each, c.requires.limit.inside)

pub returns : goal.returns
returns c =
    split_told c.args.a.now c.args.b.now c.args.own.now c.args.conflicts c.args.limit c.requires.limit (length c.latches-count.result.now) (ap length c.latches-count.ensures) _ c.tag_at.result c.tag_at-2.result
    (subst (λ (bs : List ℕ). AreMembers (length c.latches-count.result.now) bs c.in_ok-listed.listed) c.as_slice.ensures c.in_ok-listed.ensures) c.new.ensures c.tag_at.ensures c.tag_at-2.ensures refl
