pub mod Grown
pub mod Queries
pub mod PairPlaces
pub mod PairCycles
pub mod Sequences
pub mod Verdicts
pub mod Refused
pub mod CyclesUnder
