pub mod Agreeing
pub mod Differing
pub mod Counting
