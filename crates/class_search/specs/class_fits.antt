pub mod Members
pub mod Laws
pub mod class_joining
pub mod Stand
