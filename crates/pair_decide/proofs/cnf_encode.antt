pub mod Added
pub mod Meeting
pub mod Places
pub mod Shown
pub mod Sized
pub mod proof_check
