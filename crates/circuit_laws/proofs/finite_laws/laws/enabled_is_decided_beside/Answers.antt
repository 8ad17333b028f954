use Rattle.circuit_laws.proofs.finite_laws.EnabledDecided.{enabled_in_nets_beside}
use Rattle.circuit_laws.proofs.finite_laws.laws.enabled_is_decided_beside.Goals as goal

pub returns : goal.returns
returns c = enabled_in_nets_beside
