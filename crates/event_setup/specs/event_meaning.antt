pub mod Laws
pub mod event_meaning_under
pub mod event_names
pub use Rattle.event_form.specs.event_findings.Findings
pub use Rattle.event_form.specs.declared.event_findings.verdict.EventVerdict
pub use Rattle.event_form.specs.Answers
pub use Rattle.plain_check.specs.under_base.compare_base.Says
