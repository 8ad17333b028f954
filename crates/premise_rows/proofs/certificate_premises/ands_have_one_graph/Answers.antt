use Rattle.premise_rows.proofs.certificate_premises.Clauses.{ands_have_one_graph}
use Rattle.premise_rows.proofs.certificate_premises.ands_have_one_graph.Goals as goal

pub returns : goal.returns
returns c = ands_have_one_graph
