pub mod Growing
pub mod Asking
pub mod Parting
pub mod Uncut
pub mod PairsIn
pub mod Sides
pub mod Searching
pub mod Numbering
