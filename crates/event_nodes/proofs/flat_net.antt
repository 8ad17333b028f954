pub use Rattle.flat_net.proofs.Drivers
pub use Rattle.flat_net.proofs.Growth
pub use Rattle.flat_net.proofs.Nets
pub use Rattle.flat_net.proofs.Places
