use Rattle.circuit_laws.proofs.start_laws.Sampling.{covers_are_not_exact}
use Rattle.circuit_laws.proofs.start_laws.samples.covers_are_not_exact.Goals as goal

pub returns : goal.returns
returns c = covers_are_not_exact
