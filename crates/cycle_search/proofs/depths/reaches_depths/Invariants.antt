use Rattle.std.proofs.Common.{take}
use Rattle.std.specs.List.{Contains}
use Rattle.flat_net.specs.View.{circuit_of}
use Rattle.sec_setup.specs.declared.ports.pairs.SignalPair.{SignalPair}
use Rattle.cycle_search.specs.Depths.{HasDepthUpTo}
use Rattle.cycle_search.proofs.depths.reaches_depths.Given as goal

abbrev pub invariant-loop-pair : goal.invariant-loop-pair
invariant-loop-pair l =
    (x : SignalPair) → Contains (take l.pair-index l.pair-items) x → HasDepthUpTo (circuit_of l.setup.left.now) x.left.0 l.cycle × HasDepthUpTo (circuit_of l.setup.right.now) x.right.0 l.cycle
