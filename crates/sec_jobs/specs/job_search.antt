pub mod search_meaning
pub mod Ends
