pub mod Opening
pub mod Pairs
