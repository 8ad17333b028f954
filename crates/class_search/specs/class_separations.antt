pub mod Telling
pub mod Apart
pub mod Least
pub mod cone_values
