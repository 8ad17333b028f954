use Rattle.circuit_laws.proofs.event_laws.SideTrees.{sides_unfold_in_nets}
use Rattle.circuit_laws.proofs.event_laws.laws.sides_unfold_as_parts.Goals as goal

pub returns : goal.returns
returns c = sides_unfold_in_nets
