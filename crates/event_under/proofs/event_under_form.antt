pub mod Showing
pub mod Questions
pub mod Refusing
pub mod Fitting
