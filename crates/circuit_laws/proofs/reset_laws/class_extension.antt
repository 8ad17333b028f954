pub mod Trees
pub mod Keeping
pub mod Visits
pub mod Sides
