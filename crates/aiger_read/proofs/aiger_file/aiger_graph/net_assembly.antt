pub use Rattle.net_assembly.proofs.AssembledRuns
pub use Rattle.net_assembly.proofs.Building
pub use Rattle.net_assembly.proofs.DistinctLists
pub use Rattle.net_assembly.proofs.Nexts
pub use Rattle.net_assembly.proofs.Rows
