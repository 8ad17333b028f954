pub mod Judgements
pub mod Finds
