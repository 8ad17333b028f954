pub mod Found
pub mod enable_laws
pub mod unate_enable
