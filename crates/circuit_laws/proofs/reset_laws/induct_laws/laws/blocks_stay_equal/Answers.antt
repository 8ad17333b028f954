use Rattle.circuit_laws.proofs.reset_laws.induct_laws.Runs.{blocks_stay_equal}
use Rattle.circuit_laws.proofs.reset_laws.induct_laws.laws.blocks_stay_equal.Goals as goal

pub returns : goal.returns
returns c = blocks_stay_equal
