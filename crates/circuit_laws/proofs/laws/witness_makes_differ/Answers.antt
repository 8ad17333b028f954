use Rattle.circuit_laws.proofs.LawProofs.{witness_makes_differ}
use Rattle.circuit_laws.proofs.laws.witness_makes_differ.Goals as goal

pub returns : goal.returns
returns c = witness_makes_differ
