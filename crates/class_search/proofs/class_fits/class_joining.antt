pub mod Bounds
pub mod Classes
pub mod Giving
pub mod Tables
pub mod Members
