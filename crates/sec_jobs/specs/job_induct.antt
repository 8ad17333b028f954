pub mod Ends
pub mod induct_meaning
