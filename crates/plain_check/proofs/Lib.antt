pub mod Outcomes
pub mod ResetLeaves
pub mod ResetMeaning
pub mod ResetSetups
