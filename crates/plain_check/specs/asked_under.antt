pub mod Refusals
pub mod Differences
pub mod Asked
pub mod plain_asked_under
pub mod reset_asked_under
