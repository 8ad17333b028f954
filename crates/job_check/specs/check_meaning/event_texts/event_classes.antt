pub use Rattle.event_classes.specs.Refused
pub use Rattle.event_classes.specs.event_functions.class_totals.Totals
