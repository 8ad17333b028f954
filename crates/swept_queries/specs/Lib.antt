pub mod Words
pub mod Lanes
pub mod Roots
pub mod InStead
pub mod sweep
pub mod node_agreement
