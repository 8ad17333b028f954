pub use Rattle.flat_net.specs.Cut
pub use Rattle.flat_net.specs.Sound
pub use Rattle.flat_net.specs.View
pub use Rattle.flat_net.specs.declared.parts.LatchAt
