pub mod Answers
pub mod Designs
pub mod ResetTexts
pub mod Sequences
pub mod Texts
pub mod job_base
pub mod text_circuits
pub mod outcome_fits
