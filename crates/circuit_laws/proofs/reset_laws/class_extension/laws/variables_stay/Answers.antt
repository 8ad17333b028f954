use Rattle.circuit_laws.proofs.reset_laws.class_extension.Keeping.{variables_stay_in_nets}
use Rattle.circuit_laws.proofs.reset_laws.class_extension.laws.variables_stay.Goals as goal

pub returns : goal.returns
returns c = variables_stay_in_nets
