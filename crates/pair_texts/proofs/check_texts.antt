pub mod ResetDesigns
pub mod ResetTexts
pub mod Texts
pub mod Comparing
pub mod Uncut
pub mod Latchless
pub use Rattle.plain_check.proofs.under_base.compare_base.Forms
pub use Rattle.plain_check.proofs.under_base.compare_base.ToldCycles
