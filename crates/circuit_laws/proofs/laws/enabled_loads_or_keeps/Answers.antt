use Rattle.circuit_laws.proofs.EnabledForm.{enabled_loads_or_keeps_in_nets}
use Rattle.circuit_laws.proofs.laws.enabled_loads_or_keeps.Goals as goal

pub returns : goal.returns
returns c = enabled_loads_or_keeps_in_nets
