pub use Rattle.event_nodes.proofs.event_variables.aig.CoverMeaning
pub use Rattle.event_nodes.proofs.event_variables.aig.Growth
pub use Rattle.event_nodes.proofs.event_variables.aig.Meaning
