use Rattle.tree_graph.proofs.OneGraph.{have_one_graph}
use Rattle.tree_graph.proofs.laws.one_graph.Goals as goal

pub returns : goal.returns
returns c = have_one_graph
