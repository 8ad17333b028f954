use Rattle.call_rows.proofs.circuit_samples.UnderExamples.{reset_sides_under, reset_agree_under}
use Rattle.call_rows.proofs.circuit_samples.assumptions.equal_from_reset_under.Goals as goal

pub returns : goal.returns
returns c = record { sides = reset_sides_under; agree = reset_agree_under }
