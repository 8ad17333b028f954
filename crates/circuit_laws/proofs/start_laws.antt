pub mod Covers
pub mod Knowing
pub mod Three
pub mod Sampling
