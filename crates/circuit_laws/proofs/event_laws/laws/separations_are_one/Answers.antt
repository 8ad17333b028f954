use Rattle.circuit_laws.proofs.event_laws.Separations.{separations_are_one}
use Rattle.circuit_laws.proofs.event_laws.laws.separations_are_one.Goals as goal

pub returns : goal.returns
returns c = separations_are_one
