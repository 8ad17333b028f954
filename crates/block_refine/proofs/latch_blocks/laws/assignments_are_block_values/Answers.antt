use Rattle.block_refine.proofs.latch_blocks.OnGraph.{assignments_are_block_values}
use Rattle.block_refine.proofs.latch_blocks.laws.assignments_are_block_values.Goals as goal

pub returns : goal.returns
returns c = assignments_are_block_values
