pub mod Invariants
pub mod Laws
pub mod Ties
pub mod Toggles
