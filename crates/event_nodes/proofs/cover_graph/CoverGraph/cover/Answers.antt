-- The graph grows, or the cover was made before.
use Rattle.event_nodes.proofs.Covers.{made_grow}
use Rattle.event_nodes.proofs.cover_graph.CoverGraph.cover.Goals as goal

pub invariant_of-self : goal.invariant_of-self
invariant_of-self c = made_grow c.self.inside.aig c.cover.new.self c.cover.ensures.grows c.self.inside.made.items c.self.invariant
