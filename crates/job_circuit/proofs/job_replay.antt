pub mod CompleteReplays
pub mod Means
pub mod TwoCircuits
pub mod Ended
