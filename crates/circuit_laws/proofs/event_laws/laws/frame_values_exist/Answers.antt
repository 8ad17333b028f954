use Rattle.circuit_laws.proofs.event_laws.FrameExist.{frame_values_exist_in_nets}
use Rattle.circuit_laws.proofs.event_laws.laws.frame_values_exist.Goals as goal

pub returns : goal.returns
returns c = frame_values_exist_in_nets
