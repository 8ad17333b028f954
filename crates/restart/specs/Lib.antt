pub mod Behind
pub mod Cycle
pub mod Agreement
pub mod Sequence
pub mod Report
