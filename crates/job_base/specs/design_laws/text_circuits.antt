pub mod sec_files
