pub mod Columns
pub mod CycleQueries
pub mod Decided
pub mod PairAt
pub mod PairCycles
pub mod Sound
