pub mod Judged
pub mod Found
pub mod Ends
pub mod Answer
