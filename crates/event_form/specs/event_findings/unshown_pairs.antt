pub mod Reached
pub mod Classes
pub mod Told
pub mod Telling
pub mod Separations
pub mod class_events
pub use Rattle.event_classes.specs.Refused
pub use Rattle.obligations.specs.Decided
