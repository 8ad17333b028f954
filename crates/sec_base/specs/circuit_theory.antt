pub use Rattle.circuit_theory.specs.Cover
pub use Rattle.circuit_theory.specs.Query
pub use Rattle.circuit_theory.specs.Tree
