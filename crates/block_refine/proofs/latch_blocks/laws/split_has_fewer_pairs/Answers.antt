use Rattle.block_refine.proofs.latch_blocks.Counting.{split_has_fewer_pairs}
use Rattle.block_refine.proofs.latch_blocks.laws.split_has_fewer_pairs.Goals as goal

pub returns : goal.returns
returns c = split_has_fewer_pairs
