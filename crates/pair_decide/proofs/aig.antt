pub use Rattle.aig.proofs.Growth
pub use Rattle.aig.proofs.Insert
