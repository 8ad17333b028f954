use Rattle.circuit_laws.proofs.cycle_laws.Sampling.{toggle_differs}
use Rattle.circuit_laws.proofs.cycle_laws.samples.toggle_differs.Goals as goal

pub returns : goal.returns
returns c = toggle_differs
