pub mod Reading
pub mod Places
pub mod Refusals
pub mod Verdicts
