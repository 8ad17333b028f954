-- The first bit of the difference.
use Rattle.std.proofs.Common.{length}
use Rattle.aig.proofs.lane_eval.Compared.{first-of_block}
use Rattle.aig.proofs.lane_eval.table.first_of_block.Goals as goal

pub returns-clause-first : goal.returns-clause-first
returns-clause-first c =
    first-of_block c.args.table.now (length c.args.inputs.now) c.args.number c.put_variables.new.blocks c.node_blocks.new.blocks c.as_slice.result.now c.difference.result c.first_bit.result c.as_slice.ensures.value
    c.put_variables.ensures.bits c.node_blocks.ensures.bits c.difference.ensures.bits c.first_bit.ensures
