pub mod Tied
pub mod signals_report
