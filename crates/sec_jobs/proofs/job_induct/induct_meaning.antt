pub mod Bits
pub mod Judging
pub mod Means
pub mod Complete
