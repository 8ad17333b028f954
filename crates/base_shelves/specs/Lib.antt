pub mod Outside
pub mod Fetch
pub mod MemShelf
pub mod MemSink
pub use Rattle.base_lists.specs.declared.list.NoMemory
