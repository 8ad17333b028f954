pub mod Answer
pub mod event_texts
pub mod event_meaning
pub mod event_texts_under
pub mod check_found
pub use Rattle.event_setup.specs.event_meaning.event_names.event_fits.Compared
