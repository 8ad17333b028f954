pub use Rattle.witness_report.specs.Shown
pub use Rattle.witness_report.specs.declared.stimulus.Stimulus
pub use Rattle.witness_report.specs.declared.witness.PairName
pub use Rattle.witness_report.specs.declared.witness.Witness
