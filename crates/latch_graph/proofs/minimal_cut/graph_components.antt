pub mod Ranks
pub mod flat_net
pub use Rattle.signal_graph.proofs.Driving
pub use Rattle.signal_graph.proofs.Lists
pub use Rattle.signal_graph.proofs.Reading
