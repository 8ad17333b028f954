pub mod Wiring
pub mod Events
pub mod Faults
pub mod Clocks
pub mod Solid
pub mod Steps
pub mod Tables
pub mod Wired
