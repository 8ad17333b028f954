pub mod Cover
pub mod Texts
pub mod circuit_theory
pub use Rattle.base_lists.specs.declared.list.NoMemory
