pub mod Copy
pub mod graph_clone
pub mod aig_or
