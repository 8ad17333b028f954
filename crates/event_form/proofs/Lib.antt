pub mod Asking
pub mod Counted
pub mod Answers
pub mod Telling
pub mod Refusing
pub mod Stopping
