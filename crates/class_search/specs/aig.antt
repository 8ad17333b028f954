pub use Rattle.event_nodes.specs.event_variables.aig.Builds
pub use Rattle.event_nodes.specs.event_variables.aig.Cone
pub use Rattle.event_nodes.specs.event_variables.aig.Rules
pub use Rattle.event_nodes.specs.event_variables.aig.Values
pub use Rattle.event_nodes.specs.event_variables.aig.Lit
pub use Rattle.event_nodes.specs.event_variables.aig.Node
