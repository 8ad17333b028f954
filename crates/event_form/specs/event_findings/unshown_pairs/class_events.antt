pub mod Made
pub mod Separated
pub mod Laws
pub use Rattle.event_classes.specs.Refused
pub use Rattle.event_classes.specs.Named
