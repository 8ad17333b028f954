pub mod Behind
pub mod Count
pub mod Distinct
pub mod Each
pub mod Full
pub mod Gate
pub mod Pairs
pub mod Tokens
pub mod RowFacts
pub mod Rowed
pub mod Taken
pub mod Goes
pub mod Steps
pub mod Bytes
pub mod Loop
pub mod Plain
mod Texts
