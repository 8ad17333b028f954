use Rattle.circuit_laws.proofs.reset_laws.induct_laws.Partitions.{coarsest_is_one}
use Rattle.circuit_laws.proofs.reset_laws.induct_laws.laws.coarsest_is_one.Goals as goal

pub returns : goal.returns
returns c = coarsest_is_one
