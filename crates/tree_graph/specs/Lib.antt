pub mod Making
pub mod Numbering
pub mod Rooted
pub mod Walking
pub mod aig
