use Rattle.circuit_laws.proofs.LawProofs.{exposed_functions_agree}
use Rattle.circuit_laws.proofs.laws.exposed_functions_agree.Goals as goal

pub returns : goal.returns
returns c = exposed_functions_agree
