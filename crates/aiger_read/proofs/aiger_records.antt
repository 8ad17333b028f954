pub mod DefinedOnce
pub mod Words
