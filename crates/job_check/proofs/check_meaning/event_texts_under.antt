pub mod Designs
pub mod Cases
pub mod Texts
pub mod Answers
