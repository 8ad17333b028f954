pub mod Keys
pub mod Searches
pub mod Filling
pub mod Elements
