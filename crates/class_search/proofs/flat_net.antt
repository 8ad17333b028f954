pub use Rattle.event_nodes.proofs.event_variables.flat_net.CutNets
pub use Rattle.event_nodes.proofs.event_variables.flat_net.Growth
pub use Rattle.event_nodes.proofs.event_variables.flat_net.Nets
pub use Rattle.event_nodes.proofs.event_variables.flat_net.Places
