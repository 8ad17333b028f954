pub use Rattle.job_base.proofs.design_laws.text_circuits.Circuits
