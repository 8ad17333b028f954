pub mod Refusing
pub mod Totaling
pub mod Growing
pub mod Visiting
pub mod Shortening
pub mod Covering
pub use Rattle.edbf_unfold.proofs.event_literals.Known
