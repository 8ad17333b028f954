use Rattle.circuit_laws.proofs.event_laws.ExposedCycles.{exposed_events_are_common_in_nets}
use Rattle.circuit_laws.proofs.event_laws.laws.exposed_events_are_common.Goals as goal

pub returns : goal.returns
returns c = exposed_events_are_common_in_nets
