pub mod Walk
pub mod Known
pub mod PlaceLits
pub mod Going
pub mod Finish
pub mod Listing
pub mod Cone
pub mod signal_graph
