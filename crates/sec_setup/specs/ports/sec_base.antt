pub use Rattle.flat_net.specs.sec_base.Orders
pub use Rattle.flat_net.specs.sec_base.PairAnswer
pub use Rattle.flat_net.specs.sec_base.TheConstants
