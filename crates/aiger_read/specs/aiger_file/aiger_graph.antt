pub mod Circuit
pub mod Literals
pub mod Loops
pub mod net_assembly
