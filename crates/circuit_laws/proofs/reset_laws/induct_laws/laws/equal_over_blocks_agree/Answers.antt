use Rattle.circuit_laws.proofs.reset_laws.induct_laws.Runs.{equal_over_blocks_agree}
use Rattle.circuit_laws.proofs.reset_laws.induct_laws.laws.equal_over_blocks_agree.Goals as goal

pub returns : goal.returns
returns c = equal_over_blocks_agree
