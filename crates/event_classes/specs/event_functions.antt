pub mod Functions
pub mod Refused
pub mod Laws
pub mod event_reach
pub mod class_totals
