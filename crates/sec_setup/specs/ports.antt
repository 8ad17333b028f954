pub mod Numbered
pub mod Pairing
pub mod Pairs
pub mod flat_net
pub mod sec_base
pub mod witness_report
pub mod name_tables
