pub mod OneGraph
pub mod OneTree
pub mod Fitting
pub mod Printed
