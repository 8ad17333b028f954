pub mod Standing
pub mod Splits
