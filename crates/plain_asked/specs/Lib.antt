pub mod Apart
pub mod Asked
pub mod Findings
pub mod Formed
pub mod Pairs
pub mod Sequences
pub mod Variables
pub mod outcome_fits
