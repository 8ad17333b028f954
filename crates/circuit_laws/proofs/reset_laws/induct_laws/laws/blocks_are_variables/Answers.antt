use Rattle.circuit_laws.proofs.reset_laws.induct_laws.Queries.{blocks_are_variables}
use Rattle.circuit_laws.proofs.reset_laws.induct_laws.laws.blocks_are_variables.Goals as goal

pub returns : goal.returns
returns c = blocks_are_variables
