pub mod Members
pub mod Fitting
pub mod Standing
