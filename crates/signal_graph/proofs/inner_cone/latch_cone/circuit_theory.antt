pub use Rattle.flat_net.proofs.circuit_theory.Lists
pub use Rattle.flat_net.proofs.circuit_theory.Sums
