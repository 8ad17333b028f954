pub mod Answer
pub mod Ends
pub mod Found
pub mod Made
pub mod pair_clauses
pub mod sec_files
pub mod job_lrat
