use Rattle.call_rows.proofs.circuit_samples.event_samples.Places.{count_by_places}
use Rattle.call_rows.proofs.circuit_samples.event_samples.samples.places_count.Goals as goal

pub returns : goal.returns
returns c = count_by_places
