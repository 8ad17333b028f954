pub mod CutPairs
pub mod CutSizes
pub mod Fitted
pub mod Leaves
pub mod Meaning
pub mod Sequences
