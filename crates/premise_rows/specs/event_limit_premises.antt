pub mod Chosen
pub mod AtLimit
pub mod Found
pub mod OneConflict
