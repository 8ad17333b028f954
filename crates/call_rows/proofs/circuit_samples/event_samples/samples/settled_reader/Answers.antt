use Rattle.call_rows.proofs.circuit_samples.event_samples.SettledReader.{settled_reader}
use Rattle.call_rows.proofs.circuit_samples.event_samples.samples.settled_reader.Goals as goal

pub returns : goal.returns
returns c = settled_reader
