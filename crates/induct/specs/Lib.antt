pub mod Inductions
pub mod block_refine
pub mod block_outputs
pub mod induct_report
