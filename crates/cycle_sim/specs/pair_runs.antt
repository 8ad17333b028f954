pub mod Feeding
pub mod Feeds
pub mod Listing
pub mod Outputs
pub mod Showing
pub mod replay_report
