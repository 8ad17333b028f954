pub use Rattle.signal_induct.specs.Tied
pub use Rattle.signal_induct.specs.declared.induction.SignalInduction
