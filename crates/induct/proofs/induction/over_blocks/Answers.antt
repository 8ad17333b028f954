-- The outputs over the blocks.
use Rattle.std.proofs.Common.{◌∙◌, length, sym, ap, subst, arith}
use Rattle.induct.specs.Inductions.{AreMembers}
use Rattle.induct.proofs.Inducing.{over_told, told_agree}
use Rattle.induct.proofs.OverBlocks.{latches_few, ready_from, all_small}
use Rattle.induct.proofs.OwnNumbers.{inputs_few, shared_few}
use Rattle.induct.proofs.induction.over_blocks.Goals as goal

pub new-requires : goal.new-requires
new-requires c = ready_from c.args.nets.now c.requires.light.0 c.requires.light.1 c.requires.numbers c.requires.coarsest

pub members-requires-clause-order : goal.members-requires-clause-order
members-requires-clause-order c = c.requires.coarsest.in_order

pub members-requires-clause-few : goal.members-requires-clause-few
members-requires-clause-few c =
    let few = latches_few c.args.nets.now.left.now c.args.nets.now.right.now c.keeps.ensures.sound c.keeps-2.ensures.sound c.requires.light.0 c.requires.light.1 in
    omega (arith, few, c.requires.coarsest.each)

pub members-requires-clause-left : goal.members-requires-clause-left
members-requires-clause-left c = let count = ap length c.latches.ensures in omega (arith, count, c.requires.coarsest.each)

pub overflow_cast-first : goal.overflow_cast-first
overflow_cast-first c =
    let few = latches_few c.args.nets.now.left.now c.args.nets.now.right.now c.keeps.ensures.sound c.keeps-2.ensures.sound c.requires.light.0 c.requires.light.1 in
    omega (arith, few, c.requires.coarsest.each)

pub overflow_sub-first : goal.overflow_sub-first
overflow_sub-first c = omega (arith, c.in_ok-graph.ensures.limit_is)

pub judge-requires : goal.judge-requires
judge-requires c =
    let n = c.args.nets.now in
    let few = latches_few n.left.now n.right.now c.keeps.ensures.sound c.keeps-2.ensures.sound c.requires.light.0 c.requires.light.1 in
    let inputs = inputs_few n.left.now c.keeps.ensures.sound c.requires.light.0 in
    let some = shared_few n.left.now n.right.now in
    let count = ap length c.in_ok-inputs_beside.ensures in
    all_small n c.in_ok-graph.graph c.args.conflicts c.in_ok-outputs.outputs c.in_ok-outputs.ensures c.in_ok-graph.ensures c.len-count.result (omega (arith, few, c.requires.coarsest.each)) (omega (arith, inputs, some, count, c.len-count.ensures))

pub returns-clause-made : goal.returns-clause-made
returns-clause-made c =
    let n = c.args.nets.now in
    let g = c.in_ok-graph.graph in
    over_told n g c.args.conflicts c.in_ok-outputs.outputs c.in_ok-graph.ensures c.requires.coarsest c.requires.numbers c.in_ok-outputs.ensures _ _ c.in_ok-made.made c.in_ok-made.ensures.verdict c.keeps.ensures.sound c.keeps-2.ensures.sound c.requires.matches
    (omega (arith, c.in_ok-graph.ensures.limit_is)) (c.len-count.ensures ∙ ap length c.in_ok-inputs_beside.ensures) (length c.latches.result.now) (ap length c.latches.ensures)
    (subst (AreMembers (length c.latches.result.now) n.blocks.now) (sym c.in_ok-made.ensures.blocks) c.in_ok-blocks.ensures) c.in_ok-made.ensures.pairs

pub returns-clause-agree : goal.returns-clause-agree
returns-clause-agree c =
    told_agree c.args.nets.now c.in_ok-graph.graph c.args.conflicts c.in_ok-outputs.outputs c.in_ok-graph.ensures c.requires.coarsest c.requires.numbers c.in_ok-outputs.ensures _ _ c.in_ok-made.made c.in_ok-made.ensures.verdict c.requires.right
