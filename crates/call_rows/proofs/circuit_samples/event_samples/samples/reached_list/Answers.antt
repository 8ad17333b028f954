use Rattle.call_rows.proofs.circuit_samples.event_samples.Reached.{reached_list}
use Rattle.call_rows.proofs.circuit_samples.event_samples.samples.reached_list.Goals as goal

pub returns : goal.returns
returns c = reached_list
