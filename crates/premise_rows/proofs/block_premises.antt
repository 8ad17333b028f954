pub mod NetWeights
pub mod ByBlocks
pub mod TurningNets
pub mod EqualByBlocks
pub mod ResetBounds
pub mod ResetPremises
pub mod ResetUnfolding
