pub mod CycleOrder
pub mod CycleWindows
pub mod PowerUps
pub mod Writing
