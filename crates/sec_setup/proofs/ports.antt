pub mod Columns
pub mod Interfaces
pub mod NamedPairs
pub mod Numbering
pub mod Paired
pub mod Shared
pub mod circuit_laws
pub mod flat_net
