pub mod Nested
pub mod NestedText
