pub mod Agreement
pub mod Answers
pub mod Meets
pub mod Resets
pub mod Texts
pub mod job_base
pub mod sec_files
