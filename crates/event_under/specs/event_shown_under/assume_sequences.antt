pub use Rattle.assume_queries.specs.assume_sequences.Filled
