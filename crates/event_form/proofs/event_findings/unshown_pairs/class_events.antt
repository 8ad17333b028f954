pub mod Made
pub mod Begin
pub mod Counted
pub mod Pairs
pub mod Telling
pub mod Refused
