pub mod Begun
pub mod Restarted
pub mod BegunUnder
