pub mod TableLemmas
pub mod Appended
pub mod Ordered
pub mod Hashing
pub mod Hashed
