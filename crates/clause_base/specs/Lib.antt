pub mod Clauses
pub mod LiteralFields
pub mod Literals
pub mod Merging
pub mod New
pub use Rattle.base_lists.specs.declared.list.NoMemory
