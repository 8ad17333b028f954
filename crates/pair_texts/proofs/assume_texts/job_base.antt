pub use Rattle.job_base.proofs.Limits
