pub mod FirstPairs
pub mod Outcomes
