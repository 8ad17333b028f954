use Rattle.circuit_laws.proofs.event_laws.ReachedLatches.{closed_lists_are_reached}
use Rattle.circuit_laws.proofs.event_laws.laws.closed_lists_are_reached.Goals as goal

pub returns : goal.returns
returns c = closed_lists_are_reached
