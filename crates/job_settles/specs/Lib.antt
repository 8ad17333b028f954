pub mod Settled
pub mod Says
pub mod Report
pub mod Found
pub mod Answer
