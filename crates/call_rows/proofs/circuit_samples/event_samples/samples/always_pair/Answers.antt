use Rattle.call_rows.proofs.circuit_samples.event_samples.AlwaysPair.{always_sides, q_enabled, left_always, right_always, left_depth, right_depth, always_are_variables, always_shown, always_difference, always_differ}
use Rattle.call_rows.proofs.circuit_samples.event_samples.samples.always_pair.Goals as goal

pub returns : goal.returns
returns c = record { sides = always_sides; enabled = q_enabled; reaches = (left_always, right_always); depths = (left_depth, right_depth); variables = always_are_variables; shown = always_shown; difference = always_difference; differ = always_differ }
