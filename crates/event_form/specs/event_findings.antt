pub mod Compared
pub mod Findings
pub mod unshown_pairs
pub mod event_witness
