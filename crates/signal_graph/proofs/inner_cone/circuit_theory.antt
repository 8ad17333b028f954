pub use Rattle.circuit_theory.proofs.Lists
pub use Rattle.circuit_theory.proofs.Sums
