pub mod Made
pub mod Nets
pub mod SignalNames
pub mod Signals
pub mod aiger_file
pub mod aiger_records
