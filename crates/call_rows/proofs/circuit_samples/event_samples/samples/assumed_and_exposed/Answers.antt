use Rattle.call_rows.proofs.circuit_samples.event_samples.AssumedPair.{assumed_exposed_sides, assumed_cut, assumed_onward}
use Rattle.call_rows.proofs.circuit_samples.event_samples.samples.assumed_and_exposed.Goals as goal

pub returns : goal.returns
returns c = record { sides = assumed_exposed_sides; reads = assumed_cut.0; equal = assumed_cut.1; agree = assumed_onward.0; onward = assumed_onward.1 }
