pub mod Agreeing
pub mod Answering
