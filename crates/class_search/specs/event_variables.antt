pub use Rattle.event_nodes.specs.event_variables.Laws
pub use Rattle.event_nodes.specs.event_variables.Order
pub use Rattle.event_nodes.specs.event_variables.Variables
