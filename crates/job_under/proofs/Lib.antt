pub mod Says
pub mod Lifted
pub mod Unread
pub mod Finds
pub mod Means
pub mod Complete
pub mod job_signals
