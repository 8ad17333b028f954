pub use Rattle.event_nodes.specs.Adds
pub use Rattle.event_nodes.specs.Nodes
pub use Rattle.event_nodes.specs.Reach
pub use Rattle.base_tables.specs.Table
pub use Rattle.event_nodes.specs.View
pub use Rattle.event_nodes.specs.Visited
pub use Rattle.event_nodes.specs.declared.error.EventUnfoldError
