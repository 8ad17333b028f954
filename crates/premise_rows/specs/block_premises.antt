pub mod ByBlocks
pub mod EqualByBlocks
pub mod ResetPremises
pub mod ResetUnfolding
