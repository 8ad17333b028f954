pub use Rattle.sec_base.specs.circuit_theory.Query
