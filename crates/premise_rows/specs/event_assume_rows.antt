pub mod Loads
pub mod assume_rows
