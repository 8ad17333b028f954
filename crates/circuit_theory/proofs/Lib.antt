pub mod Inputs
pub mod Lists
pub mod Numbers
pub mod Sums
