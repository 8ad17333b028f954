use Rattle.circuit_laws.proofs.event_laws.FrameValues.{trees_are_frame_values_in_nets}
use Rattle.circuit_laws.proofs.event_laws.laws.trees_are_frame_values.Goals as goal

pub returns : goal.returns
returns c = trees_are_frame_values_in_nets
