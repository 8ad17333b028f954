pub use Rattle.flat_net.specs.circuit_theory.Circuit
pub use Rattle.flat_net.specs.circuit_theory.Net
