use Rattle.circuit_laws.proofs.event_laws.ExposedNames.{exposed_names_are_apart_in_nets}
use Rattle.circuit_laws.proofs.event_laws.laws.exposed_names_are_apart.Goals as goal

pub returns : goal.returns
returns c = exposed_names_are_apart_in_nets
