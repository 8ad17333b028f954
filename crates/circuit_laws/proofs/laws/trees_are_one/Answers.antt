use Rattle.circuit_laws.proofs.LawProofs.{trees_are_one}
use Rattle.circuit_laws.proofs.laws.trees_are_one.Goals as goal

pub returns : goal.returns
returns c = trees_are_one
