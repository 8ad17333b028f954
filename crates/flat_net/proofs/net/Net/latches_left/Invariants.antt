use Rattle.std.proofs.Common.{◌≡◌, take}
use Rattle.std.specs.List.{filter}
use Rattle.flat_net.specs.Cut.{stays}
use Rattle.flat_net.proofs.net.Net.latches_left.Given as goal

abbrev pub invariant-loop-latch : goal.invariant-loop-latch
invariant-loop-latch l = l.left.items ≡ filter (stays l.names) (take l.latch-index l.latch-items)
