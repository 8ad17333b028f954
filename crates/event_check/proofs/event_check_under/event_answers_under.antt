pub mod Answering
pub mod Refusals
