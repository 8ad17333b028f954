pub mod Parts
pub mod Sides
pub mod Growing
pub mod Unions
