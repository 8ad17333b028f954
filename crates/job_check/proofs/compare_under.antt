pub mod CutOutcomes
pub mod ResetOutcomes
