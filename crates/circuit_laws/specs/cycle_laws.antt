pub mod Bounded
pub mod Samples
