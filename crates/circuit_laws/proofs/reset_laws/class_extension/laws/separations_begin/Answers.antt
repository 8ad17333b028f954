use Rattle.circuit_laws.proofs.reset_laws.class_extension.Keeping.{separations_begin_in_nets}
use Rattle.circuit_laws.proofs.reset_laws.class_extension.laws.separations_begin.Goals as goal

pub returns : goal.returns
returns c = separations_begin_in_nets
