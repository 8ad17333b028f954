pub use Rattle.sec_base.specs.declared.basics.PairAnswer
pub use Rattle.sec_base.specs.declared.limits.TheConstants
