pub mod Outcome
pub mod Pairs
pub mod Places
pub mod ResetOutcome
pub mod ResetPlaces
pub mod ResetVerdict
pub mod Verdict
