pub mod Places
pub mod Tested
pub mod Examples
pub mod Toggle
pub mod SpelledTexts
pub mod Spelling
pub mod NoFaults
pub mod Ranking
