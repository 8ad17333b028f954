pub mod Listed
pub mod Draws
pub mod ToldApart
pub mod Stand
pub mod OneLiteral
