pub mod Growing
pub mod Depths
mod Kept
mod Covers
pub mod Paths
pub mod ReadPlaces
pub mod Visits
pub mod Bits
pub mod OnePath
pub mod Totals
pub mod Counting
pub mod aig
pub mod flat_net
pub use Rattle.aig.proofs.CoverMeaning
pub use Rattle.aig.proofs.Growth
pub use Rattle.aig.proofs.Literals
pub use Rattle.aig.proofs.Meaning
pub use Rattle.aig.proofs.Lists
