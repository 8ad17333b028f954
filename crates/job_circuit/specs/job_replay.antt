pub mod Ends
pub mod Replays
pub mod Modes
pub mod Told
