pub mod Places
pub mod Lines
pub mod Runs
pub mod Reports
pub mod Rows
