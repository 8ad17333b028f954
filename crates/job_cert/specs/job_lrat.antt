pub mod Answer
pub mod Ends
pub mod Found
pub mod Texts
