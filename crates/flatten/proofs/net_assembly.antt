pub use Rattle.net_assembly.proofs.ReadBy
