pub mod Decisions
pub mod Caring
pub mod LoadCares
