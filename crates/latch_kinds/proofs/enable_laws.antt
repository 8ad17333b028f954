pub mod Marking
pub mod Depending
