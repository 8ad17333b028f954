pub mod Allowed
pub mod Jobs
pub mod Known
pub mod command_words
