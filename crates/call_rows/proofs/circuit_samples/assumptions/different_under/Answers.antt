use Rattle.call_rows.proofs.circuit_samples.AssumeExamples.{under_witness, two_differs}
use Rattle.call_rows.proofs.circuit_samples.UnderExamples.{run_over_ones, column_numbers}
use Rattle.call_rows.proofs.circuit_samples.assumptions.different_under.Goals as goal

pub returns : goal.returns
returns c = record { witness = under_witness; differ = two_differs.0; rows = two_differs.1; run = run_over_ones; columns = column_numbers }
