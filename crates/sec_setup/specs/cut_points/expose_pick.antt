pub mod Pairs
pub mod Refused
pub mod Laws
pub mod Bits
