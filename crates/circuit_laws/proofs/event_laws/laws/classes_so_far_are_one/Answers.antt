use Rattle.circuit_laws.proofs.event_laws.OneClassMap.{classes_so_far_are_one_in_nets}
use Rattle.circuit_laws.proofs.event_laws.laws.classes_so_far_are_one.Goals as goal

pub returns : goal.returns
returns c = classes_so_far_are_one_in_nets
