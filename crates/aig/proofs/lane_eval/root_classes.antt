pub mod Listed
pub mod Classes
pub mod Assigned
pub mod Led
pub mod aig
