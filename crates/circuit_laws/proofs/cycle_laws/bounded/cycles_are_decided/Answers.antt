use Rattle.circuit_laws.proofs.cycle_laws.Cycles.{cycles_are_decided}
use Rattle.circuit_laws.proofs.cycle_laws.bounded.cycles_are_decided.Goals as goal

pub returns : goal.returns
returns c = cycles_are_decided
