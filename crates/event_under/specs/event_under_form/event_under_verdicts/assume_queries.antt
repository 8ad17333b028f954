pub use Rattle.assume_queries.specs.declared.map.UnderError
