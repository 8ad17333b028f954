use Rattle.circuit_laws.proofs.LawProofs.{values_are_one}
use Rattle.circuit_laws.proofs.laws.values_are_one.Goals as goal

pub returns : goal.returns
returns c = values_are_one
