pub use Rattle.job_base.specs.Written
