pub mod Refusals
pub mod Verdict
pub mod Formed
pub mod Asked
pub mod Shown
pub mod Laws
pub mod under_meaning
