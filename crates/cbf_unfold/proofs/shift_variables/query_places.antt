pub mod Growing
pub mod Grouped
