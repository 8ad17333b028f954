pub use Rattle.witness_report.specs.declared.witness.PairName
pub use Rattle.witness_report.specs.declared.witness.Witness
