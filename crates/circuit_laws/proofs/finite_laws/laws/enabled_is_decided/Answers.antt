use Rattle.circuit_laws.proofs.finite_laws.EnabledDecided.{enabled_in_nets}
use Rattle.circuit_laws.proofs.finite_laws.laws.enabled_is_decided.Goals as goal

pub returns : goal.returns
returns c = enabled_in_nets
