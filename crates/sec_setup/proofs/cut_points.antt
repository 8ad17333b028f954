pub mod Pairs
pub mod Exposures
pub mod ToldCycles
