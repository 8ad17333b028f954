pub mod First
pub mod Laws
pub mod Cares
pub mod Asked
pub mod Cycles
pub mod Searches
