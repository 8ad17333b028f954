pub mod Hinting
pub mod Texts
