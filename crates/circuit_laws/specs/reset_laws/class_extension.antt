pub mod Telling
pub mod Sides
pub mod Laws
