pub use Rattle.circuit_laws.proofs.CutLaws
pub use Rattle.circuit_laws.proofs.LawProofs
pub use Rattle.circuit_laws.proofs.Parted
