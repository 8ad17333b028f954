use Rattle.premise_rows.proofs.block_premises.EqualByBlocks.{are_equal_by_blocks}
use Rattle.premise_rows.proofs.block_premises.are_equal_by_blocks.Goals as goal

pub returns : goal.returns
returns c = are_equal_by_blocks
