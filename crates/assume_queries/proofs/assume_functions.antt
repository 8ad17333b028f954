pub mod Moved
pub mod TableNumbers
pub mod Assumed
pub mod signal_graph
pub mod cbf_unfold
