use Rattle.block_refine.proofs.latch_blocks.Going.{partition_ends}
use Rattle.block_refine.proofs.latch_blocks.laws.partition_ends.Goals as goal

pub returns : goal.returns
returns c = partition_ends
