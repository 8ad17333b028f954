pub mod Holding
pub mod Toggling
