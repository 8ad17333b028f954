pub mod Always
pub mod Assumed
pub mod Events
pub mod Never
pub mod Places
pub mod Premises
pub mod Reader
pub mod Samples
