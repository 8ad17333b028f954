pub mod Alone
pub mod Complete
pub mod Finds
pub mod Means
pub mod Examples
