use Rattle.circuit_laws.proofs.LawProofs.{marks_are_the_same}
use Rattle.circuit_laws.proofs.laws.marks_are_the_same.Goals as goal

pub returns : goal.returns
returns c = marks_are_the_same
