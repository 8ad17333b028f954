pub mod Cases
pub mod Saying
pub mod Framing
pub mod OneTree
pub mod Exact
