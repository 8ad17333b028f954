pub use Rattle.circuit_theory.proofs.Inputs
pub use Rattle.circuit_theory.proofs.Lists
pub use Rattle.circuit_theory.proofs.Numbers
pub use Rattle.circuit_theory.proofs.Sums
