use Rattle.circuit_laws.proofs.reset_laws.induct_laws.Partitions.{initial_is_coarser}
use Rattle.circuit_laws.proofs.reset_laws.induct_laws.laws.initial_is_coarser.Goals as goal

pub returns : goal.returns
returns c = initial_is_coarser
