use Rattle.circuit_laws.proofs.start_laws.Sampling.{reset_is_known}
use Rattle.circuit_laws.proofs.start_laws.samples.reset_is_known.Goals as goal

pub returns : goal.returns
returns c = reset_is_known
