pub mod Latches
pub mod Passing
pub mod Reaching
pub mod Making
