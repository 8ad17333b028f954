use Rattle.circuit_laws.proofs.reset_laws.induct_laws.Existence.{coarsest_exists}
use Rattle.circuit_laws.proofs.reset_laws.induct_laws.laws.coarsest_exists.Goals as goal

pub returns : goal.returns
returns c = coarsest_exists
