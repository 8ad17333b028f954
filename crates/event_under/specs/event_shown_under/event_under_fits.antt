pub mod Findings
pub mod event_findings
pub mod event_witness
pub mod event_agreement
