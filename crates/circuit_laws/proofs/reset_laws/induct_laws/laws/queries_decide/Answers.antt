use Rattle.circuit_laws.proofs.reset_laws.induct_laws.Queries.{queries_decide}
use Rattle.circuit_laws.proofs.reset_laws.induct_laws.laws.queries_decide.Goals as goal

pub returns : goal.returns
returns c = queries_decide
