pub mod Checking
pub mod Means
