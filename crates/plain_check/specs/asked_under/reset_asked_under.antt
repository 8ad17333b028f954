pub mod Refusals
pub mod Verdict
pub mod Formed
pub mod Asked
pub mod Shown
pub mod Laws
pub use Rattle.reset_form.specs.declared.reset_asked.findings.ResetFindings
pub use Rattle.reset_form.specs.declared.reset_asked.findings.ResetVerdict
