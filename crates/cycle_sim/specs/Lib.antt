pub mod Runs
pub mod View
pub mod Steps
pub mod Turning
pub mod pair_runs
