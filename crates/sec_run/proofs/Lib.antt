pub mod Means
pub mod Promises
