pub mod OneNets
pub mod OneText
pub mod Itself
pub mod Unfolded
