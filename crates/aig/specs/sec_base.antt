pub use Rattle.sec_base.specs.declared.basics.PairAnswer
