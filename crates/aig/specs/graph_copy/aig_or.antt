pub mod ShortOr
pub mod aig
