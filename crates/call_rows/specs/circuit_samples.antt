pub mod Assumed
pub mod Cells
pub mod Circuits
pub mod Partitioned
pub mod event_samples
