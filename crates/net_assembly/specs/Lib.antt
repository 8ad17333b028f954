pub mod Assembled
pub mod Built
pub mod Shown
pub mod Order
pub mod Searched
pub mod net_alike
