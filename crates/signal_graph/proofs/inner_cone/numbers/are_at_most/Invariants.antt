use Rattle.std.proofs.Common.{◌≤◌, get_or, take}
use Rattle.std.specs.List.{All}
use Rattle.signal_graph.specs.inner_cone.latch_cone.flat_net.Signal.{Signal}
use Rattle.signal_graph.proofs.inner_cone.numbers.are_at_most.Given as goal

abbrev pub invariant-loop-read : goal.invariant-loop-read
invariant-loop-read l = All (λ (r : Signal). get_or l.numbers r.0 0 ≤ l.most) (take l.read-index l.reads)
