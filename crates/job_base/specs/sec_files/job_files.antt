pub mod Ends
pub mod Reading
pub mod Texts
pub mod job_base
