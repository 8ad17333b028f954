pub mod WayLemmas
pub mod Turned
pub mod Edges
pub mod Marking
pub mod Walks
pub mod Sides
pub mod Tried
