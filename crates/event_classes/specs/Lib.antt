pub mod Named
pub mod Map
pub mod Limits
pub mod Refused
pub mod Steps
pub mod event_functions
pub use Rattle.class_search.specs.event_order.Order
pub use Rattle.class_search.specs.declared.class_separations.apart.Apart as KeptApart
pub use Rattle.class_search.specs.class_separations.Apart
