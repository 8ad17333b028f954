pub use Rattle.job_signals.proofs.Means
