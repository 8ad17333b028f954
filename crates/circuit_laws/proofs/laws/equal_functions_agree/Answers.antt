use Rattle.circuit_laws.proofs.LawProofs.{equal_functions_agree}
use Rattle.circuit_laws.proofs.laws.equal_functions_agree.Goals as goal

pub returns : goal.returns
returns c = equal_functions_agree
