use Rattle.call_rows.proofs.circuit_samples.ResetExamples.{one_witness, one_differs}
use Rattle.call_rows.proofs.circuit_samples.assumptions.different_from_reset.Goals as goal

pub returns : goal.returns
returns c = record { witness = one_witness; differ = one_differs }
