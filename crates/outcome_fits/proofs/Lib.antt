pub use Rattle.sec_setup.proofs.CutNets
