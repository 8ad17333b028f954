pub mod Firsts
pub mod Fronts
pub mod Nevers
pub mod Settling
pub mod Finds
pub mod Means
