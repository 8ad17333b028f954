use Rattle.circuit_laws.proofs.event_laws.ExposedEvents.{exposed_event_functions_agree_in_nets}
use Rattle.circuit_laws.proofs.event_laws.laws.exposed_event_functions_agree.Goals as goal

pub returns : goal.returns
returns c = exposed_event_functions_agree_in_nets
