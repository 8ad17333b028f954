pub mod Places
pub mod Splits
pub mod Forms
pub mod RowTexts
pub mod Grown
