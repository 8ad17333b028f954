pub mod Ends
pub mod Lines
pub mod Meaning
pub mod Reading
pub mod Status
pub mod Written
pub mod sec_files
pub mod design_laws
