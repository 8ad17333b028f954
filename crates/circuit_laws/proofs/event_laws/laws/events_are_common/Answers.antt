use Rattle.circuit_laws.proofs.event_laws.SettledEvents.{events_are_common_in_nets}
use Rattle.circuit_laws.proofs.event_laws.laws.events_are_common.Goals as goal

pub returns : goal.returns
returns c = events_are_common_in_nets
