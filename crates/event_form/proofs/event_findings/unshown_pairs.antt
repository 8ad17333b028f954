pub mod Two
pub mod Occurring
pub mod Entering
pub mod Reaching
pub mod Frames
pub mod EachTwo
pub mod Standing
pub mod Separating
