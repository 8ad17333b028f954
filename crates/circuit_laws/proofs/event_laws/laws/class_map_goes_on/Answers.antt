use Rattle.circuit_laws.proofs.event_laws.ClassSteps.{class_map_goes_on_in_nets}
use Rattle.circuit_laws.proofs.event_laws.laws.class_map_goes_on.Goals as goal

pub returns : goal.returns
returns c = class_map_goes_on_in_nets
