pub mod OneClass
pub mod Enables
pub mod TwoLoads
pub mod TwoClasses
