pub mod Telling
pub mod Queries
pub mod Agreeing
pub mod event_variables
pub mod aig
pub mod event_nodes
pub mod flat_net
