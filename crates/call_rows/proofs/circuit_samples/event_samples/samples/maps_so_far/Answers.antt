use Rattle.call_rows.proofs.circuit_samples.event_samples.Reached.{maps_so_far}
use Rattle.call_rows.proofs.circuit_samples.event_samples.samples.maps_so_far.Goals as goal

pub returns : goal.returns
returns c = maps_so_far
