pub mod Behind
pub mod Meeting
pub mod Judges
pub mod Unread
pub mod Finds
pub mod Lifted
pub mod Means
pub mod Complete
