-- Whether a number of cycles is as great as the depths.
use Rattle.std.specs.Prelude.{ℕ, ◌≤◌, Contains}
use Rattle.circuit_theory.specs.Circuit.{Circuit}
use Rattle.circuit_theory.specs.Depth.{IsDepth}
use Rattle.circuit_theory.specs.Run.{NoneEnabled}
use Rattle.flat_net.specs.View.{circuit_of}
use Rattle.sec_setup.specs.declared.ports.pairs.SignalPair.{SignalPair}
use Rattle.sec_setup.specs.declared.setup.Setup.{Setup}

-- the place has a depth, and it isn't greater than the cycle
abbrev pub HasDepthUpTo : Circuit ℕ → ℕ → ℕ → Type 0
HasDepthUpTo c p cycle = (d : ℕ) × IsDepth c NoneEnabled p d × (d ≤ cycle)

-- both signals of each pair do
abbrev pub AreDeepUpTo : Setup → ℕ → Type 0
AreDeepUpTo s cycle = (x : SignalPair) → Contains s.pairs x → HasDepthUpTo (circuit_of s.left.now) x.left.0 cycle × HasDepthUpTo (circuit_of s.right.now) x.right.0 cycle
