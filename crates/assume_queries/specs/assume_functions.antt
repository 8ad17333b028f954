pub mod Functions
pub mod Laws
pub mod cbf_unfold
pub mod assume_places
