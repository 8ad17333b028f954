pub use Rattle.witness_report.specs.sec_base.PairAnswer
