pub mod Bare
pub mod Comparing
pub mod Saying
pub mod Framing
pub mod Exact
