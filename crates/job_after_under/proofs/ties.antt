pub mod Judgements
pub mod Means
pub mod Complete
