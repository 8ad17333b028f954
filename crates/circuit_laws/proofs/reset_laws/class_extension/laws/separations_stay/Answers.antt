use Rattle.circuit_laws.proofs.reset_laws.class_extension.Keeping.{separations_stay_in_nets}
use Rattle.circuit_laws.proofs.reset_laws.class_extension.laws.separations_stay.Goals as goal

pub returns : goal.returns
returns c = separations_stay_in_nets
