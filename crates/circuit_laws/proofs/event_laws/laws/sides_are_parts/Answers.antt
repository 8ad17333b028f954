use Rattle.circuit_laws.proofs.event_laws.SideParts.{sides_are_parts_in_nets}
use Rattle.circuit_laws.proofs.event_laws.laws.sides_are_parts.Goals as goal

pub returns : goal.returns
returns c = sides_are_parts_in_nets
