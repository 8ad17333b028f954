pub mod OneTree
pub mod Cares
pub mod Reading
pub mod Meaning
pub mod Parting
pub mod Mapped
pub mod Conjunctions
