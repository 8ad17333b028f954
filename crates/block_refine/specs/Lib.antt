pub mod Asking
pub mod Laws
pub mod Passes
pub mod Refining
pub mod block_graph
pub mod latch_blocks
