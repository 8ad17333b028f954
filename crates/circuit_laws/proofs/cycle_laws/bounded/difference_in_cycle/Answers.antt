use Rattle.circuit_laws.proofs.cycle_laws.Cycles.{difference_in_cycle}
use Rattle.circuit_laws.proofs.cycle_laws.bounded.difference_in_cycle.Goals as goal

pub returns : goal.returns
returns c = difference_in_cycle
