pub mod Variables
pub mod Telling
pub mod Kept
pub mod Least
pub mod Going
