pub mod Cycles
mod Sampling
