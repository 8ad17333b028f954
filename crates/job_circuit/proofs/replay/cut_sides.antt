pub mod Opened
pub mod PairPlaces
pub mod Uncut
