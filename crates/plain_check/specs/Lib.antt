pub mod Verdicts
pub mod plain_form
pub mod under_base
pub mod asked_under
