pub use Rattle.swept_queries.proofs.Listed
