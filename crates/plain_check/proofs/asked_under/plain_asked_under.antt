pub mod Grown
pub mod PairPlaces
pub mod Sequences
pub mod Verdicts
pub mod Refused
pub mod PairsUnder
pub mod Witnesses
