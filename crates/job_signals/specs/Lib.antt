pub mod Judged
pub mod Found
pub mod Ends
pub mod Answer
pub mod job_begun
