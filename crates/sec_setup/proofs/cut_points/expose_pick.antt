pub mod Bits
pub mod Removed
pub mod Paired
pub mod Cuts
