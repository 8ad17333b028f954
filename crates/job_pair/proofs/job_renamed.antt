pub mod Lines
pub mod Faults
pub mod Designs
pub mod Finds
pub mod Means
pub mod Complete
pub mod Examples
