pub mod View
pub mod Unfolded
pub mod Laws
pub mod Building
pub mod Found
pub mod unfold_places
pub mod shift_variables
