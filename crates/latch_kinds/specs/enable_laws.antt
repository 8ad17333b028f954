pub mod Enabled
pub mod Laws
