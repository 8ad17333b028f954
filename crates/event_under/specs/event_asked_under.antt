pub mod Questions
pub mod Sides
pub mod assume_queries
