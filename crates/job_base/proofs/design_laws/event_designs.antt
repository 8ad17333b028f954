pub mod FlatEnabled
pub mod FlatEventAgree
pub mod FlatEventCycles
pub mod FlatEventMarks
pub mod Kept
