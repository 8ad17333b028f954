pub use Rattle.blif_read.specs.Design
pub use Rattle.blif_read.specs.Fault
pub use Rattle.blif_read.specs.Kept
pub use Rattle.blif_read.specs.declared.design.BlifModel
