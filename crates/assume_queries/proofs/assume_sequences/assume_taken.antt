pub mod Queries
pub mod Shapes
pub mod Premises
pub mod Refused
pub mod Taking
pub mod Rows
