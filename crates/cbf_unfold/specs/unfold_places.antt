pub mod Places
pub mod Reach
pub mod Walk
pub mod Literals
pub mod Planned
pub mod InputOrder
pub mod Visitors
pub mod Growing
