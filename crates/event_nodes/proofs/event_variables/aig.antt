pub use Rattle.aig.proofs.CoverMeaning
pub use Rattle.aig.proofs.Growth
pub use Rattle.aig.proofs.Meaning
