pub use Rattle.job_signals.specs.job_begun.Judged
