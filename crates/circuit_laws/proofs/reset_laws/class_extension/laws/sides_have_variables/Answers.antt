use Rattle.circuit_laws.proofs.reset_laws.class_extension.Sides.{sides_have_variables_in_nets}
use Rattle.circuit_laws.proofs.reset_laws.class_extension.laws.sides_have_variables.Goals as goal

pub returns : goal.returns
returns c = sides_have_variables_in_nets
