pub mod View
pub mod Counted
pub mod Within
pub use Rattle.edbf_unfold.specs.class_queries.Laws
pub use Rattle.edbf_unfold.specs.class_queries.Enables
