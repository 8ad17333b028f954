pub mod Check
pub mod Found
pub mod Ends
pub mod job_base
pub use Rattle.event_setup.specs.event_meaning.event_names.event_fits.Compared
pub use Rattle.event_setup.specs.event_meaning.event_meaning_under.Answered
