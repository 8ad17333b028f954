pub use Rattle.circuit_theory.proofs.Lists
