pub mod Found
pub mod Ends
pub mod Says
pub mod Answer
pub mod Examples
pub mod job_renamed
