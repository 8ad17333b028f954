use Rattle.circuit_laws.proofs.LawProofs.{weight_is_one}
use Rattle.circuit_laws.proofs.laws.weight_is_one.Goals as goal

pub returns : goal.returns
returns c = weight_is_one
