pub mod Filled
pub mod Assumed
pub mod assume_taken
