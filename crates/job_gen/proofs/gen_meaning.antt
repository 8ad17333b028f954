pub mod Means
pub mod Matching
pub mod Ranking
pub mod Weighing
pub mod Never
