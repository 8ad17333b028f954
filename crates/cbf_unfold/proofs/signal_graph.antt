pub use Rattle.latch_graph.proofs.signal_graph.Lists
