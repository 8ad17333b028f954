use Rattle.call_rows.proofs.circuit_samples.event_samples.AssumedPair.{is_assumption, assumed_sides, assumed_reads, assumed_equal, assumed_agree}
use Rattle.call_rows.proofs.circuit_samples.event_samples.samples.assumed_pair.Goals as goal

pub returns : goal.returns
returns c = record { assumption = is_assumption; sides = assumed_sides; reads = assumed_reads; equal = assumed_equal; agree = assumed_agree }
