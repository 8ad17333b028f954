pub mod Places
pub mod Reading
pub mod Leaves
pub use Rattle.sec_setup.proofs.CutNets
