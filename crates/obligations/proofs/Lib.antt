pub mod Fits
pub mod Listed
pub mod Swept
pub mod Steps
pub mod Results
pub mod swept_queries
