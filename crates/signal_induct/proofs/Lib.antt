pub mod Agreeing
pub mod Counting
pub mod Empty
pub mod Firsts
pub mod Held
pub mod Holding
pub mod Everywhere
