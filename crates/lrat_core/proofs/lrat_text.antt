pub mod Reading
pub mod Texts
pub mod TwoUnits
pub mod Worded
