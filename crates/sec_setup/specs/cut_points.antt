pub mod Common
pub mod Exposed
pub mod expose_pick
