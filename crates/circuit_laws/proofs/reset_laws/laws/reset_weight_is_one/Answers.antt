use Rattle.circuit_laws.proofs.reset_laws.ResetWeights.{reset_weight_is_one}
use Rattle.circuit_laws.proofs.reset_laws.laws.reset_weight_is_one.Goals as goal

pub returns : goal.returns
returns c = reset_weight_is_one
