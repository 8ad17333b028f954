use Rattle.circuit_laws.proofs.LawProofs.{pairs_are_listed}
use Rattle.circuit_laws.proofs.laws.pairs_are_listed.Goals as goal

pub returns : goal.returns
returns c = pairs_are_listed
