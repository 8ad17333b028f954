pub mod Alone
pub mod Fronts
pub mod Laid
pub mod NewNames
pub mod Pairs
pub mod Renamed
