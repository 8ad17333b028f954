use Rattle.std.proofs.Common.{subst}
use Rattle.signal_graph.specs.Graph.{GraphView, AreNodes}
use Rattle.latch_graph.proofs.graph.LatchGraph.keeps.Goals as goal

pub returns : goal.returns
returns c = subst (λ (z : GraphView). AreNodes z.nodes z.latches) c.self.view_is c.keeps.ensures
