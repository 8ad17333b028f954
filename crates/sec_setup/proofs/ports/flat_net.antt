pub use Rattle.flat_net.proofs.Nets
pub use Rattle.flat_net.proofs.Places
