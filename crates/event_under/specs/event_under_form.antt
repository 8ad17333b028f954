pub mod Refusals
pub mod Asked
pub mod Formed
pub mod event_under_verdicts
pub mod event_witness_under
