pub use Rattle.circuit_theory.specs.declared.Mode
pub use Rattle.circuit_theory.specs.declared.Side
