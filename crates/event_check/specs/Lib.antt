pub mod Pairs
pub mod event_check_under
pub mod event_answers
pub use Rattle.event_setup.specs.event_meaning.event_names.event_fits.Compared
