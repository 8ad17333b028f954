pub mod Lifted
pub mod Meaning
pub mod Means
pub mod Complete
