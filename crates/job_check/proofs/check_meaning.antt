pub mod Complete
pub mod Means
