pub mod Texts
pub mod event_classes
pub mod event_setup
pub use Rattle.event_setup.specs.event_meaning.event_names.event_fits.Compared
pub use Rattle.event_setup.specs.event_meaning.event_names.event_fits
