pub mod Sequences
pub mod Variables
pub mod Queries
pub mod cycle_variables
pub mod query_places
pub mod pair_decide
