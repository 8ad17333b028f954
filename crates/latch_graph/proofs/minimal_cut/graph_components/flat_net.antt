pub use Rattle.signal_graph.proofs.flat_net.CutNets
pub use Rattle.signal_graph.proofs.flat_net.Growth
pub use Rattle.signal_graph.proofs.flat_net.Nets
pub use Rattle.signal_graph.proofs.flat_net.Places
