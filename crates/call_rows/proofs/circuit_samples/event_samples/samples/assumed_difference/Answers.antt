use Rattle.call_rows.proofs.circuit_samples.event_samples.AssumedDifference.{one_is_assumption, assumed_variables, assumed_shown, assumed_difference, meeting_is, assumed_differ}
use Rattle.call_rows.proofs.circuit_samples.event_samples.samples.assumed_difference.Goals as goal

pub returns : goal.returns
returns c = record { assumption = one_is_assumption; variables = assumed_variables; shown = assumed_shown; difference = assumed_difference; meeting = meeting_is; differ = assumed_differ.0; rows = assumed_differ.1 }
