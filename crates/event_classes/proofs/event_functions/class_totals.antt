pub mod Nodes
pub mod Going
pub mod Over
pub mod EnableCovering
