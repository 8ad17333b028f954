pub use Rattle.event_form.specs.Frames
