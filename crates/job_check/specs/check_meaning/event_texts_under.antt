pub mod Answers
pub mod Texts
pub mod event_meaning
pub use Rattle.event_setup.specs.event_meaning.event_meaning_under.Answered
