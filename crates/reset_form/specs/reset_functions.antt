pub mod Bases
pub mod Pairs
pub mod reset_unfold
pub mod pair_decide
