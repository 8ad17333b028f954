pub mod OwnPairs
pub mod Growing
pub mod Parts
pub mod reset_unfold
