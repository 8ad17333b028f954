use Rattle.call_rows.proofs.circuit_samples.UnderExamples.{exposed_sides, exposed_agree}
use Rattle.call_rows.proofs.circuit_samples.assumptions.exposed_under.Goals as goal

pub returns : goal.returns
returns c = record { sides = exposed_sides; agree = exposed_agree.0; onward = exposed_agree.1 }
