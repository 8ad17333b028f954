pub mod Judgements
pub mod Finds
pub mod Means
pub mod Complete
