use Rattle.circuit_laws.proofs.reset_laws.class_extension.Sides.{sides_reach_nodes_in_nets}
use Rattle.circuit_laws.proofs.reset_laws.class_extension.laws.sides_reach_nodes.Goals as goal

pub returns : goal.returns
returns c = sides_reach_nodes_in_nets
