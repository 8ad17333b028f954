pub use Rattle.event_setup.specs.Choosing
