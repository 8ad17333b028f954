pub mod Comparable
pub mod Counted
pub mod Crossed
pub mod CrossedCompared
pub mod Differing
pub mod Held
pub mod HeldCompared
pub mod Turning
