pub mod Driven
pub mod Faults
pub mod Headers
pub mod Records
pub mod Took
pub mod Lines
pub mod Numbers
pub mod Packed
