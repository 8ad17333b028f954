pub mod Starts
pub mod Counting
pub mod Sides
pub mod Unfolding
pub mod Within
