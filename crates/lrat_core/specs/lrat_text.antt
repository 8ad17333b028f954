pub mod Laws
pub mod Parts
pub mod Spellings
pub mod Verdicts
