pub mod AndNets
pub mod OneGraph
pub mod OneTree
pub mod Clauses
pub mod Fitting
pub mod Printed
