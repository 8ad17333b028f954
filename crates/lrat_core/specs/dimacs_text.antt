pub mod Dimacs
pub mod Entries
pub mod Formulas
pub mod Literals
pub mod Parts
pub mod dimacs_writer
