pub mod Complete
pub mod Finds
pub mod Means
pub mod Certified
