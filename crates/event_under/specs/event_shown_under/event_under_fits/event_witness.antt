pub use Rattle.event_form.specs.event_findings.event_witness.Sequences
pub use Rattle.event_form.specs.declared.event_findings.event_witness.unshown.UnshownFrame
