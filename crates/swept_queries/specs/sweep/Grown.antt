-- A new graph with literals for the first nodes of a graph.
use Rattle.std.specs.Prelude.{◌≡◌, ℕ, ◌≤◌, List, length, take}
use Rattle.aig.specs.declared.node.Node.{Node}
use Rattle.aig.specs.Graph.{vars_of}
use Rattle.swept_queries.specs.declared.sweep.growth.Growth.{Growth}
use Rattle.swept_queries.specs.node_agreement.Standing.{AreStandIns, AreChosen}
use Rattle.swept_queries.specs.sweep.Swept.{HasNoOtherInputs}

-- there is a literal for each of the first n nodes, the new graph has no more nodes, and it has their variables, each of them one of the graph's
pub record IsGrown (g : List Node) (w : Growth) (n : ℕ) : Type 0 where
  pub each : length w.map.items ≡ n
  pub stand : AreStandIns g w.graph w.map.items
  pub chosen : AreChosen w.graph w.chosen.items
  pub few : length w.graph ≤ n
  pub vars : vars_of w.graph ≡ vars_of (take n g)
  pub inputs : HasNoOtherInputs g w.graph
