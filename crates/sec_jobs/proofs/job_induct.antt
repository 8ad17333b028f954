pub mod Finds
pub mod Judgements
