pub mod Bits
pub mod Leaves
pub mod Pairs
pub mod Sequences
pub mod Agreeing
pub mod Making
