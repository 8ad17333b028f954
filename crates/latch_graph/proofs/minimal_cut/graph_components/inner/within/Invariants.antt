use Rattle.std.proofs.Common.{◌≡◌, length}
use Rattle.latch_graph.proofs.minimal_cut.graph_components.Ranks.{AreMadeTo}
use Rattle.latch_graph.proofs.minimal_cut.graph_components.inner.within.Given as goal

abbrev pub invariant-loop-s : goal.invariant-loop-s
invariant-loop-s l = record { size : length l.inner.items ≡ l.s; made : AreMadeTo l.nodes l.labels l.s l.inner.items }
