pub mod Pairs
pub mod LatchDepths
pub mod SignalDepths
pub mod Sorting
pub mod BothLatches
