-- Four ands compare the sides and the care.
use Rattle.std.proofs.Common.{length}
use Rattle.aig.proofs.lane_eval.Compared.{difference-bit}
use Rattle.aig.proofs.lane_eval.table.difference.Goals as goal

pub and_lits-left_only-requires-clause-right : goal.and_lits-left_only-requires-clause-right
and_lits-left_only-requires-clause-right c = c.not.ensures.within (length c.args.blocks.now) c.requires.right

pub and_lits-right_only-requires-clause-left : goal.and_lits-right_only-requires-clause-left
and_lits-right_only-requires-clause-left c = c.not-2.ensures.within (length c.args.blocks.now) c.requires.left

pub returns-clause-bits : goal.returns-clause-bits
returns-clause-bits c = λ k inside.
    difference-bit c.args.table.now c.args.blocks.now c.not.result.0 c.not-2.result.0 c.and_lits-left_only.result c.and_lits-right_only.result c.and_block-same.result c.and_block.result _ k c.requires.blocks c.requires.care
    c.and_lits-left_only.ensures.block c.and_lits-right_only.ensures.block c.and_block-same.ensures.block c.not.ensures.literal c.not-2.ensures.literal (c.and_lits-left_only.ensures.bits k inside) (c.and_lits-right_only.ensures.bits k inside) c.and_block-same.ensures.value c.and_block.ensures.value inside
