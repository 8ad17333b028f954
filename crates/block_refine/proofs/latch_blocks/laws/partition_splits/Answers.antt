use Rattle.block_refine.proofs.latch_blocks.Going.{partition_splits}
use Rattle.block_refine.proofs.latch_blocks.laws.partition_splits.Goals as goal

pub returns : goal.returns
returns c = partition_splits
