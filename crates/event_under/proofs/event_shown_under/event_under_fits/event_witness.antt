pub use Rattle.event_form.proofs.event_findings.event_witness.InputLeaves
