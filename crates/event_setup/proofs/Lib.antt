pub mod Acyclic
pub mod Bits
pub mod SignalDepths
pub mod Recovering
pub mod SameCircuits
pub mod Setups
