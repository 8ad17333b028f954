pub use Rattle.swept_queries.specs.InStead
