pub mod Asking
pub mod Assuming
pub mod Copies
pub mod Frames
pub mod Places
pub mod Showing
pub mod Told
