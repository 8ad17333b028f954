use Rattle.call_rows.proofs.circuit_samples.event_samples.EventRuns.{exposed_settled_pair}
use Rattle.call_rows.proofs.circuit_samples.event_samples.samples.exposed_settled_pair.Goals as goal

pub returns : goal.returns
returns c = exposed_settled_pair
