pub mod Fed
pub mod Firsts
pub mod Listed
pub mod Places
pub mod Puts
pub mod ShownPairs
