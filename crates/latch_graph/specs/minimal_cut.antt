pub mod Chosen
pub mod Readers
pub mod Marks
pub mod Walk
pub mod Trying
pub mod graph_components
