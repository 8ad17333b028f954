pub mod Refusals
pub mod Asked
pub mod Taken
pub mod Premises
pub mod Functions
pub mod Meeting
