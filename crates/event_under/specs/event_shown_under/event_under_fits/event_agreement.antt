pub use Rattle.event_form.specs.event_agreement.pair_events.View
