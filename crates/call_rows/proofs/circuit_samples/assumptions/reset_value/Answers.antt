use Rattle.call_rows.proofs.circuit_samples.UnderExamples.{reset_value}
use Rattle.call_rows.proofs.circuit_samples.assumptions.reset_value.Goals as goal

pub returns : goal.returns
returns c = reset_value
