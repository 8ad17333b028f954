use Rattle.call_rows.proofs.circuit_samples.event_samples.AssumedDifference.{meeting_difference, never_is_assumption, never_unfolds, never_met}
use Rattle.call_rows.proofs.circuit_samples.event_samples.samples.met_and_not_met.Goals as goal

pub returns : goal.returns
returns c = record { met = meeting_difference; assumption = never_is_assumption; unfolds = never_unfolds; never = never_met }
