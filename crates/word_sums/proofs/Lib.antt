pub mod Congruent
pub mod DifferLemmas
pub mod RowLemmas
pub mod SumLemmas
pub mod TwinWords
