pub mod Report
pub mod Judged
pub mod Shown
pub mod Ends
pub mod Answer
pub mod Read
pub mod Last
