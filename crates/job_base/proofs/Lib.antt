pub mod Limits
pub mod Meaning
pub mod Reading
pub mod Replays
