use Rattle.circuit_laws.proofs.reset_laws.ResetAgreement.{equal_resets_agree}
use Rattle.circuit_laws.proofs.reset_laws.laws.equal_resets_agree.Goals as goal

pub returns : goal.returns
returns c = equal_resets_agree
