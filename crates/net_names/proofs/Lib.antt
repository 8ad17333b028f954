pub mod Copies
pub mod Circuits
pub mod Renamings
pub mod Named
pub mod Comparing
