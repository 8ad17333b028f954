pub mod Loads
pub mod Premises
