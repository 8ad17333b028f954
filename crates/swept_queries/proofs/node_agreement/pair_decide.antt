pub use Rattle.pair_decide.proofs.Reached
pub use Rattle.pair_decide.proofs.Read
