pub mod ReadLiterals
pub mod NoLoops
pub mod GraphSteps
pub mod Marking
pub mod net_assembly
