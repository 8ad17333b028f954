use Rattle.circuit_laws.proofs.LawProofs.{runs_exist}
use Rattle.circuit_laws.proofs.laws.runs_exist.Goals as goal

pub returns : goal.returns
returns c = runs_exist
