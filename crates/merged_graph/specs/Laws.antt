-- What follows for a graph beside another one.
use Rattle.std.specs.Prelude.{List}
use Rattle.aig.specs.declared.node.Node.{Node}
use Rattle.aig.specs.Graph.{Grows}
use Rattle.merged_graph.specs.declared.merged.MergedGraph.{MergedGraph}
use Rattle.merged_graph.specs.Merged.{IsMerged}

-- It goes on to stand beside the other one while that grows.
abbrev pub MergedLater : Type 0
MergedLater = (g h : List Node) (m : MergedGraph) → Grows g h → IsMerged g m → IsMerged h m
