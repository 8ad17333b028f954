use Rattle.circuit_laws.proofs.event_laws.EventVariables.{event_difference_gives_witness}
use Rattle.circuit_laws.proofs.event_laws.laws.event_difference_is_witness.Goals as goal

pub returns : goal.returns
returns c = event_difference_gives_witness
