pub mod Sequences
pub mod Unshown
pub mod Shown
pub mod Laws
