pub mod Frames
pub mod BothCares
pub mod Meaning
pub mod Staying
pub mod edbf_unfold
