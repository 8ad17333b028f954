pub use Rattle.job_check.specs.check_meaning.Answer
