use Rattle.latch_graph.proofs.Skipping.{plain_graph}
use Rattle.signal_graph.proofs.unfolding_weight.Weights.{plain_nodes}
use Rattle.latch_graph.proofs.graph.LatchGraph.weight.Goals as goal

pub weigh-requires-clause-graph : goal.weigh-requires-clause-graph
weigh-requires-clause-graph c = plain_nodes c.args.net.now c.args.self.now (plain_graph c.args.net.now c.args.self.now c.requires.graph) c.nodes.result.now c.nodes.ensures
