pub use Rattle.event_setup.specs.event_meaning.event_meaning_under.Heavy
