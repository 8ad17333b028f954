pub mod FrameBits
pub mod PairQueries
pub mod Agreeing
pub mod SameCircuits
pub mod CutCircuits
