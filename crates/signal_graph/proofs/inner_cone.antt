pub mod Inner
pub mod SideSignals
pub mod Gates
pub mod circuit_theory
pub mod flat_net
