pub use Rattle.job_base.specs.sec_files.job_files.Reading
