pub mod Runs
pub mod Cares
pub mod Queries
pub mod Pairs
pub mod Searching
pub mod Taken
