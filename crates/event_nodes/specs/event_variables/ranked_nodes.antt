pub mod Ranks
pub mod Named
