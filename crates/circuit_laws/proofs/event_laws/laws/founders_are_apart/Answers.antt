use Rattle.circuit_laws.proofs.event_laws.Separations.{founders_are_apart}
use Rattle.circuit_laws.proofs.event_laws.laws.founders_are_apart.Goals as goal

pub returns : goal.returns
returns c = founders_are_apart
