pub mod Headings
pub mod Putting
