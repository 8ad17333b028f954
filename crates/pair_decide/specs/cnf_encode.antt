pub mod Encoding
pub mod proof_check
