pub use Rattle.signal_graph.specs.Graph
