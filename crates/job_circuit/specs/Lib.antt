pub mod Ends
pub mod Reports
pub mod SimBehind
pub mod job_replay
pub mod replay
