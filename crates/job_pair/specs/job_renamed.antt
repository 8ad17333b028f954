pub mod Texts
pub mod Found
pub mod Ends
pub mod Answer
pub mod Examples
