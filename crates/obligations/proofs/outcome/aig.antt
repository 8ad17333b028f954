pub use Rattle.pair_decide.proofs.aig.Growth
pub use Rattle.pair_decide.proofs.aig.Insert
