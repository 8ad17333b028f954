pub mod Undecided
pub mod Idle
pub mod Cares
pub mod Deciding
