pub mod Designs
pub mod Small
pub mod Texts
pub mod Ranked
pub mod NoFault
pub mod Laws
