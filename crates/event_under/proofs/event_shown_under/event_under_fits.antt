pub mod event_agreement
pub mod event_witness
pub mod event_under
