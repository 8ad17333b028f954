pub use Rattle.sec_base.proofs.circuit_theory.Lists
