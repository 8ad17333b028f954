use Rattle.circuit_laws.proofs.LawProofs.{settled_from_depth}
use Rattle.circuit_laws.proofs.laws.settled_from_depth.Goals as goal

pub returns : goal.returns
returns c = settled_from_depth
