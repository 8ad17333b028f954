pub use Rattle.signal_graph.specs.flat_net.Cut
pub use Rattle.signal_graph.specs.flat_net.View
pub use Rattle.signal_graph.specs.flat_net.Driver
pub use Rattle.signal_graph.specs.flat_net.LatchAt
pub use Rattle.signal_graph.specs.flat_net.Signal
