pub mod job_induct
pub mod job_search
