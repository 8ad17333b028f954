pub mod CompleteReports
pub mod Means
pub mod OneCircuit
mod SimBehind
pub mod SimBehindFinds
