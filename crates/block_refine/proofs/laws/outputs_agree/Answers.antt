use Rattle.block_refine.proofs.Agreeing.{outputs_agree}
use Rattle.block_refine.proofs.laws.outputs_agree.Goals as goal

pub returns : goal.returns
returns c = outputs_agree
