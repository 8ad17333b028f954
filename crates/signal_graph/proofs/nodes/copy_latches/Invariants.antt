use Rattle.std.proofs.Common.{◌≡◌, take}
use Rattle.signal_graph.proofs.nodes.copy_latches.Given as goal

abbrev pub invariant-loop-latch : goal.invariant-loop-latch
invariant-loop-latch l = l.made.items ≡ take l.latch-index l.latches
