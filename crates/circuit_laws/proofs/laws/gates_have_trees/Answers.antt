use Rattle.circuit_laws.proofs.LawProofs.{gates_have_trees}
use Rattle.circuit_laws.proofs.laws.gates_have_trees.Goals as goal

pub returns : goal.returns
returns c = gates_have_trees
