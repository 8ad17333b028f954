pub use Rattle.event_nodes.proofs.Growing
pub use Rattle.event_nodes.proofs.Lists
pub use Rattle.event_nodes.proofs.OnePath
pub use Rattle.event_nodes.proofs.Paths
pub use Rattle.event_nodes.proofs.Totals
pub use Rattle.event_nodes.proofs.Visits
