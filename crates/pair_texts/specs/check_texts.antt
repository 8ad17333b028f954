pub mod Resets
pub mod Texts
pub use Rattle.plain_check.specs.under_base.compare_base.Compared
pub use Rattle.plain_check.specs.declared.under_base.compare_base.error.CompareError
