pub mod Totals
pub mod Laws
pub mod EnableFunctions
pub use Rattle.edbf_unfold.specs.event_literals.event_walk
