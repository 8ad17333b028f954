pub mod Asked
pub mod Sequences
pub mod Firsts
pub mod Agreeing
pub mod Comparing
pub mod Fitting
pub mod Showing
pub mod Repeating
