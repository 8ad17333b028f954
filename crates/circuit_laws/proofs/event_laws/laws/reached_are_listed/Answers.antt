use Rattle.circuit_laws.proofs.event_laws.ReachedLatches.{reached_are_listed_in_nets}
use Rattle.circuit_laws.proofs.event_laws.laws.reached_are_listed.Goals as goal

pub returns : goal.returns
returns c = reached_are_listed_in_nets
