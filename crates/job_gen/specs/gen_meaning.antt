pub mod Report
pub mod Found
pub mod Answer
