use Rattle.circuit_laws.proofs.cycle_laws.Cycles.{equal_up_to_agree}
use Rattle.circuit_laws.proofs.cycle_laws.bounded.equal_up_to_agree.Goals as goal

pub returns : goal.returns
returns c = equal_up_to_agree
