pub mod CutNets
pub mod Mismatches
pub mod SameEquations
pub mod Setups
pub mod ToldCycles
pub mod Uncut
pub mod ReadInputs
pub mod flat_net
