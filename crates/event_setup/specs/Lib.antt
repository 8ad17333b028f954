pub mod Choosing
pub mod Cutting
pub mod Numbering
pub mod Recovered
pub mod Setup
pub mod read_inputs
pub mod event_meaning
