pub use Rattle.signal_graph.proofs.Lists
