pub use Rattle.event_nodes.specs.event_variables.flat_net.Cut
pub use Rattle.event_nodes.specs.event_variables.flat_net.Sound
pub use Rattle.event_nodes.specs.event_variables.flat_net.View
pub use Rattle.event_nodes.specs.event_variables.flat_net.LatchAt
