pub mod Inner
pub mod flat_net
pub use Rattle.signal_graph.specs.Graph
pub use Rattle.signal_graph.specs.declared.nodes.Node
