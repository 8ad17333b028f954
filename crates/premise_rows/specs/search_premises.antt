pub mod Cycles
pub mod Searched
pub mod Under
pub mod SearchedUnder
