pub mod Reaching
pub mod Copies
pub mod Entries
