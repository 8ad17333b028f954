pub mod Functions
pub mod Laws
pub use Rattle.event_classes.specs.declared.event_functions.signals.SignalFunction
