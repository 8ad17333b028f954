pub mod Sides
pub mod Within
pub mod Comparing
pub mod Flat
pub mod Nets
pub mod LoadExamples
pub mod PlainExamples
