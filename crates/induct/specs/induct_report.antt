pub mod Report
pub mod block_refine
