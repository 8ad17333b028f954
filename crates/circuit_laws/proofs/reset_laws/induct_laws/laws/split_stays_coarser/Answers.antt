use Rattle.circuit_laws.proofs.reset_laws.induct_laws.Partitions.{split_stays_coarser}
use Rattle.circuit_laws.proofs.reset_laws.induct_laws.laws.split_stays_coarser.Goals as goal

pub returns : goal.returns
returns c = split_stays_coarser
