pub use Rattle.pair_decide.specs.declared.query.Proof
