use Rattle.call_rows.proofs.circuit_samples.event_samples.Reached.{twin_fits}
use Rattle.call_rows.proofs.circuit_samples.event_samples.samples.twin_fits.Goals as goal

pub returns : goal.returns
returns c = twin_fits
