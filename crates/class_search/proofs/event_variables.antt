pub use Rattle.event_nodes.proofs.event_variables.Meaning
pub use Rattle.event_nodes.proofs.event_variables.Named
pub use Rattle.event_nodes.proofs.event_variables.NodePaths
pub use Rattle.event_nodes.proofs.event_variables.Sorting
