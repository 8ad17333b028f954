-- The graph grows.
use Rattle.event_nodes.proofs.Covers.{made_grow}
use Rattle.event_nodes.proofs.cover_graph.CoverGraph.and.Goals as goal

pub invariant_of-self : goal.invariant_of-self
invariant_of-self c = made_grow c.self.inside.aig c.and.new.self c.and.ensures.grows c.self.inside.made.items c.self.invariant
