pub mod Deciding
pub mod EnabledDecided
