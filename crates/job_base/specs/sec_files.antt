pub mod Formats
pub mod Loading
pub mod Stimuli
pub mod job_files
pub mod aiger_read
pub mod Named
