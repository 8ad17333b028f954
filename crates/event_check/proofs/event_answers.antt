pub mod Stopping
pub mod Refusals
pub mod Finding
pub mod Told
pub mod Agreeing
pub mod Comparing
pub mod Whole
pub use Rattle.event_setup.proofs.event_meaning.event_names.Naming
