use Rattle.circuit_laws.proofs.event_laws.Twins.{twins_fit_in_nets}
use Rattle.circuit_laws.proofs.event_laws.laws.twins_fit_one_class.Goals as goal

pub returns : goal.returns
returns c = twins_fit_in_nets
