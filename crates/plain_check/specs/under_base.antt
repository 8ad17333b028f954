pub mod Met
pub mod Sizes
pub mod Compared
pub mod Laws
pub mod Refusals
pub mod compare_base
pub mod under_fits
pub use Rattle.assume_queries.specs.assume_sequences.assume_taken.Taken
