use Rattle.latch_graph.proofs.minimal_cut.graph_components.Ranks.{AreRankedTo}
use Rattle.latch_graph.proofs.minimal_cut.graph_components.inner.are_ranked.Given as goal

abbrev pub invariant-loop-s : goal.invariant-loop-s
invariant-loop-s l = AreRankedTo l.nodes l.labels l.s
