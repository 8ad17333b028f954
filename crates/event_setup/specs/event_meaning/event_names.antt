pub mod Nameable
pub mod event_fits
pub use Rattle.event_form.specs.Asked
pub use Rattle.event_form.specs.declared.error.EventFormError
