use Rattle.call_rows.proofs.circuit_samples.event_samples.Reached.{first_fit}
use Rattle.call_rows.proofs.circuit_samples.event_samples.samples.first_fit.Goals as goal

pub returns : goal.returns
returns c = first_fit
