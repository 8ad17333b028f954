pub mod Shown
pub mod Laws
pub mod assume_queries
pub mod event_shown_under
