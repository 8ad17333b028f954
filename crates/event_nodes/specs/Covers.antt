-- Covers that are remembered with their literals.
use Rattle.std.specs.Prelude.{◌*◌, ◌<◌, List, length, map}
use Rattle.aig.specs.declared.node.Node.{Node}
use Rattle.aig.specs.Rules.{IsCoverOf}
use Rattle.event_nodes.specs.declared.cover_graph.made.MadeCover.{MadeCover}

-- the literal is that of the cover of its fan-ins
pub record IsMadeCover (g : List Node) (m : MadeCover) : Type 0 where
  pub is : IsCoverOf g m.cover (map (λ f. f.0) m.fanins.items) m.lit.0
  pub within : m.lit.0 < 2 * length g
