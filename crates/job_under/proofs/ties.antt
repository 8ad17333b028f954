pub mod Meeting
pub mod Judgements
pub mod Means
pub mod Complete
