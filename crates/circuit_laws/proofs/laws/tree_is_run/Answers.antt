use Rattle.circuit_laws.proofs.LawProofs.{tree_is_run}
use Rattle.circuit_laws.proofs.laws.tree_is_run.Goals as goal

pub returns : goal.returns
returns c = tree_is_run
