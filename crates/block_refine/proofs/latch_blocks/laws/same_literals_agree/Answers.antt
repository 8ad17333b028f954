use Rattle.block_refine.proofs.latch_blocks.OnGraph.{same_literals_agree}
use Rattle.block_refine.proofs.latch_blocks.laws.same_literals_agree.Goals as goal

pub returns : goal.returns
returns c = same_literals_agree
