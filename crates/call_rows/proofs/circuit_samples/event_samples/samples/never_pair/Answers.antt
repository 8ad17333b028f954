use Rattle.call_rows.proofs.circuit_samples.event_samples.AssumedDifference.{one_is_assumption}
use Rattle.call_rows.proofs.circuit_samples.event_samples.NeverPair.{never_sides, never_exposed_sides, pair_without_care, side_without_care, never_reads, pair_without_care_under, never_asks}
use Rattle.call_rows.proofs.circuit_samples.event_samples.samples.never_pair.Goals as goal

pub returns : goal.returns
returns c = record { sides = never_sides; exposed = never_exposed_sides; pair = pair_without_care; side = side_without_care; assumption = (one_is_assumption, never_reads); under = pair_without_care_under; query = never_asks }
