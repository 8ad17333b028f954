pub mod Circuits
pub mod Refusals
pub mod Settles
pub mod event_names_under
pub mod event_answers_under
pub use Rattle.event_setup.specs.event_meaning.event_meaning_under.Answered
