pub use Rattle.flat_net.specs.Cut
pub use Rattle.flat_net.specs.Sound
pub use Rattle.flat_net.specs.Table
pub use Rattle.flat_net.specs.View
pub use Rattle.flat_net.specs.declared.parts.Driver
pub use Rattle.flat_net.specs.declared.parts.Gate
pub use Rattle.flat_net.specs.declared.parts.LatchAt
pub use Rattle.flat_net.specs.declared.signals.Signal
