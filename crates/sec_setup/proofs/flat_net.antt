pub use Rattle.flat_net.proofs.Nets
