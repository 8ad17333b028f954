pub mod Circuits
pub mod Refusals
pub mod Verdicts
