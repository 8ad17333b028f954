pub mod Graph
pub mod Comparing
