pub mod Answer
pub mod Ends
pub mod Job
pub mod Promises
pub mod check_meaning
