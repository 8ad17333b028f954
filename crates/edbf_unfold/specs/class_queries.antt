pub mod Enables
pub mod Laws
pub mod edbf_unfold
