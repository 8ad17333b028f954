use Rattle.call_rows.proofs.circuit_samples.event_samples.EventRuns.{settled_pair}
use Rattle.call_rows.proofs.circuit_samples.event_samples.samples.settled_pair.Goals as goal

pub returns : goal.returns
returns c = settled_pair
