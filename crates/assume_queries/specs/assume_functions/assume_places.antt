pub mod Gathered
pub mod Placed
