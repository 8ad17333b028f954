pub mod Ranges
pub mod Zeros
pub mod Spelled
pub mod Accepted
pub mod Trails
pub mod Hinted
pub mod Numbers
pub mod Additions
