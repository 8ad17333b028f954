pub mod Decided
pub mod FirstPairs
pub mod Outcomes
pub mod NoLimits
pub mod OneLiteral
