use Rattle.edbf_unfold.proofs.class_queries.Staying.{functions_grow_with_graph}
use Rattle.edbf_unfold.proofs.class_queries.laws.functions_grow.Goals as goal

pub returns : goal.returns
returns c = functions_grow_with_graph
