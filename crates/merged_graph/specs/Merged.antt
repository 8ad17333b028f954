-- A graph beside another one.
use Rattle.std.specs.Prelude.{◌≤◌, List, length}
use Rattle.aig.specs.declared.node.Node.{Node}
use Rattle.swept_queries.specs.node_agreement.Standing.{AreStandIns}
use Rattle.merged_graph.specs.declared.merged.MergedGraph.{MergedGraph}

-- The list has a literal for the first nodes of the graph g alone, and each has its node's value under every assignment.
pub record IsMerged (g : List Node) (m : MergedGraph) : Type 0 where
  pub few : length m.lits ≤ length g
  pub stand : AreStandIns g m.graph m.lits
