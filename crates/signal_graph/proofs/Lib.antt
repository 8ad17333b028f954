pub mod Lists
pub mod Driving
pub mod Reading
pub mod flat_net
