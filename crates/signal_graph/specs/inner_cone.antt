pub mod Inner
pub mod Sides
pub mod Gates
pub mod latch_cone
pub mod circuit_theory
pub mod flat_net
