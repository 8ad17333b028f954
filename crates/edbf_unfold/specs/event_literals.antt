pub mod Known
pub mod Built
pub mod event_walk
pub use Rattle.aig.specs.graph_copy.aig_or.ShortOr
pub use Rattle.event_nodes.specs.flat_net.Sound
pub use Rattle.event_nodes.specs.flat_net.View
pub use Rattle.event_nodes.specs.flat_net.Driver
pub use Rattle.event_nodes.specs.flat_net.LatchAt
