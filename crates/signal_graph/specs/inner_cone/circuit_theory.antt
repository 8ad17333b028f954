pub use Rattle.circuit_theory.specs.Circuit
pub use Rattle.circuit_theory.specs.Cover
pub use Rattle.circuit_theory.specs.Net
pub use Rattle.circuit_theory.specs.Sizes
pub use Rattle.circuit_theory.specs.declared.Mode
