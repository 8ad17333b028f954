pub mod Files
pub mod Reading
pub mod State
pub mod Whole
pub mod Names
pub mod Symbols
pub mod aiger_graph
