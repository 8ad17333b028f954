pub mod Runs
pub mod Report
pub mod Judged
pub mod Found
pub mod Answer
pub mod Ends
pub mod ties
