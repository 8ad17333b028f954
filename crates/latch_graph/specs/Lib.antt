pub mod Settling
pub mod Kept
pub mod Rounds
pub mod signal_graph
pub mod flat_net
pub mod minimal_cut
pub use Rattle.signal_graph.specs.Graph
pub use Rattle.signal_graph.specs.inner_cone.latch_cone
