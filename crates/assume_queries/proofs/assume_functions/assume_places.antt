pub mod Gathering
pub mod Placing
