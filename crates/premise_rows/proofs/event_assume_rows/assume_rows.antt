pub mod Spelled
pub mod Shape
pub mod Weights
pub mod Meeting
pub mod Examples
pub mod FromReset
