pub use Rattle.sec_base.specs.declared.basics.Edge
pub use Rattle.sec_base.specs.declared.basics.Init
pub use Rattle.sec_base.specs.declared.limits.TheConstants
