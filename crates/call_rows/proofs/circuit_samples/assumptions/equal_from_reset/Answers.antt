use Rattle.call_rows.proofs.circuit_samples.ResetExamples.{reset_sides, late_and_early_agree}
use Rattle.call_rows.proofs.circuit_samples.assumptions.equal_from_reset.Goals as goal

pub returns : goal.returns
returns c = record { sides = reset_sides; agree = late_and_early_agree }
