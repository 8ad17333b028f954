pub mod Making
pub mod Numbered
pub mod OnGraph
pub mod Pushed
pub mod Queries
pub mod Taken
