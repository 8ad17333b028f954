pub mod Hashed
pub mod Table
pub mod unique_table
