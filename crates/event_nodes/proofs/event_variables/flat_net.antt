pub use Rattle.flat_net.proofs.CutNets
pub use Rattle.flat_net.proofs.Growth
pub use Rattle.flat_net.proofs.Nets
pub use Rattle.flat_net.proofs.Places
