use Rattle.circuit_laws.proofs.event_laws.EventWindows.{event_witness_makes_differ_in_nets}
use Rattle.circuit_laws.proofs.event_laws.laws.event_witness_makes_differ.Goals as goal

pub returns : goal.returns
returns c = event_witness_makes_differ_in_nets
