pub use Rattle.net_assembly.specs.Assembled
pub use Rattle.net_assembly.specs.Order
pub use Rattle.net_assembly.specs.Shown
