pub mod OrOperands
pub mod OrKeeping
pub mod OrValues
pub mod OrStaying
pub mod Deciding
pub mod aig
