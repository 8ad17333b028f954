pub use Rattle.cbf_unfold.proofs.signal_graph.Lists
