pub mod Queries
pub mod Laws
pub mod event_pairs
pub mod pair_events
