pub mod Parts
pub mod Made
pub mod Parted
pub mod Care
pub mod assume_answers
pub mod assume_functions
pub mod assume_sequences
