pub use Rattle.cbf_unfold.proofs.Cone
