pub mod Lent
pub mod Fitting
pub mod Reading
pub mod Rooting
pub mod Planning
pub mod Expanding
pub mod Opening
pub mod Exact
pub mod Stepping
pub mod InFrames
pub mod Owning
pub mod Light
mod FrameKeys
