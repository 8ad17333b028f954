use Rattle.block_refine.proofs.latch_blocks.Going.{partition_begins}
use Rattle.block_refine.proofs.latch_blocks.laws.partition_begins.Goals as goal

pub returns : goal.returns
returns c = partition_begins
