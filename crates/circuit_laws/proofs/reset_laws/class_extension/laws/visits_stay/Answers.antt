use Rattle.circuit_laws.proofs.reset_laws.class_extension.Visits.{visits_stay_in_nets}
use Rattle.circuit_laws.proofs.reset_laws.class_extension.laws.visits_stay.Goals as goal

pub returns : goal.returns
returns c = visits_stay_in_nets
