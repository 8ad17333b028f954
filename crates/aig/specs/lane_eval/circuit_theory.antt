pub use Rattle.circuit_theory.specs.Query
