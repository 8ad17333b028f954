use Rattle.call_rows.proofs.circuit_samples.event_samples.Reached.{frames_have_values}
use Rattle.call_rows.proofs.circuit_samples.event_samples.samples.frames_have_values.Goals as goal

pub returns : goal.returns
returns c = frames_have_values
