use Rattle.block_refine.proofs.latch_blocks.Counting.{split_refines}
use Rattle.block_refine.proofs.latch_blocks.laws.split_refines.Goals as goal

pub returns : goal.returns
returns c = split_refines
