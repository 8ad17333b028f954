pub mod Words
pub mod Kinds
pub mod Cells
pub mod Twins
pub mod Sketch
