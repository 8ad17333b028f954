pub mod Complete
pub mod Finds
pub mod Judgements
pub mod Means
