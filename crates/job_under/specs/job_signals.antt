pub use Rattle.job_signals.specs.Judged
