pub mod Order
pub mod Under
pub mod Laws
