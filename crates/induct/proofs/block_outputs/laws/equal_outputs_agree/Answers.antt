use Rattle.induct.proofs.block_outputs.Agreeing.{equal_outputs_agree}
use Rattle.induct.proofs.block_outputs.laws.equal_outputs_agree.Goals as goal

pub returns : goal.returns
returns c = equal_outputs_agree
