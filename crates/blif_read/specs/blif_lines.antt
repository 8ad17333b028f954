pub mod Lines
pub mod sec_base
