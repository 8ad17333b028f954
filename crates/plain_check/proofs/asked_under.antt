pub mod Shown
pub mod Asked
pub mod Refused
pub mod Verdicts
pub mod PairPlaces
pub mod Undecided
