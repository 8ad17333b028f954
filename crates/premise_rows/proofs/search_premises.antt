pub mod Cycles
pub mod FirstCycle
pub mod Searched
pub mod SearchedUnder
pub mod Under
