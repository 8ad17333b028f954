pub mod Findings
pub mod Shown
pub mod Formed
pub mod reset_asked
pub mod outcome_fits
pub mod reset_functions
pub mod reset_unfold
