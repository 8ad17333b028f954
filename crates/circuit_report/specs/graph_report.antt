pub mod Report
pub mod Puts
pub mod Jobs
