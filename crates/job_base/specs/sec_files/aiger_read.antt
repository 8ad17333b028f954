pub use Rattle.aiger_read.specs.Nets
pub use Rattle.aiger_read.specs.SignalNames
