use Rattle.circuit_laws.proofs.reset_laws.ResetExist.{reset_trees_are_one}
use Rattle.circuit_laws.proofs.reset_laws.laws.reset_trees_are_one.Goals as goal

pub returns : goal.returns
returns c = reset_trees_are_one
