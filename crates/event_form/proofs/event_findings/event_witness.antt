pub mod InputLeaves
pub mod Differing
pub mod Covering
pub mod Told
pub mod Showing
pub mod Growing
