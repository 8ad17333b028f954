pub mod Ready
pub mod Shown
