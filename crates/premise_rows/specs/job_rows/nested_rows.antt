pub mod Cutting
pub mod CutOpen
