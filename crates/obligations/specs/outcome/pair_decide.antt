pub use Rattle.pair_decide.specs.Answers
pub use Rattle.pair_decide.specs.Queries
pub use Rattle.pair_decide.specs.declared.query.Decision
pub use Rattle.pair_decide.specs.declared.query.Proof
pub use Rattle.pair_decide.specs.declared.query.Query
