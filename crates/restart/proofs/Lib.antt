pub mod Covers
pub mod Bits
pub mod Starting
pub mod Begun
pub mod Ran
pub mod Rows
pub mod Shown
pub mod Again
