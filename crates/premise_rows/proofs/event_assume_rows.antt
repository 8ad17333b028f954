mod Nodes
mod Loads
mod Spelled
pub mod Examples
