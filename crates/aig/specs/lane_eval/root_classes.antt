pub mod Agreeing
pub mod Inputs
pub mod Leads
pub mod Rows
pub mod Splits
pub mod aig
