pub use Rattle.job_base.specs.sec_files.Loading
