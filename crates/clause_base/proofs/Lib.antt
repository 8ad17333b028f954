pub mod Halves
pub mod Members
pub mod Merges
