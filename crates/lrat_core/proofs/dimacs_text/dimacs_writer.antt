pub mod Lining
pub mod Numerals
pub mod Spelled
