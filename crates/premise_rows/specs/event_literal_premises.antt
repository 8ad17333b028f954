pub mod Chained
pub mod Visits
pub mod Alike
pub mod Unlike
pub mod Twins
pub mod Trees
