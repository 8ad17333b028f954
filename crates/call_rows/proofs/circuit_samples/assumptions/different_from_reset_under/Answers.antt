use Rattle.call_rows.proofs.circuit_samples.UnderExamples.{reset_witness_under, reset_differ_under}
use Rattle.call_rows.proofs.circuit_samples.assumptions.different_from_reset_under.Goals as goal

pub returns : goal.returns
returns c = record { witness = reset_witness_under; differ = reset_differ_under.0; rows = reset_differ_under.1 }
