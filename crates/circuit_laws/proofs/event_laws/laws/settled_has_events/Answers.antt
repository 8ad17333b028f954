use Rattle.circuit_laws.proofs.event_laws.SettledEvents.{settled_has_events_in_nets}
use Rattle.circuit_laws.proofs.event_laws.laws.settled_has_events.Goals as goal

pub returns : goal.returns
returns c = settled_has_events_in_nets
