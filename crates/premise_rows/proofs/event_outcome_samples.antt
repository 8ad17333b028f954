pub mod Nets
pub mod Sides
pub mod Meeting
pub mod Pair
pub mod Answer
