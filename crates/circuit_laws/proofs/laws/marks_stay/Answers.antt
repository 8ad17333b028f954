use Rattle.circuit_laws.proofs.LawProofs.{marks_stay}
use Rattle.circuit_laws.proofs.laws.marks_stay.Goals as goal

pub returns : goal.returns
returns c = marks_stay
