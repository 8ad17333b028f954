pub use Rattle.proof_check.proofs.OneVerdict
