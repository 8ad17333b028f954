pub mod Places
pub mod Reach
pub mod View
pub mod Unfolded
pub mod Laws
pub mod Building
pub mod Cone
