use Rattle.std.proofs.Common.{◌≡◌, ◌==◌, filter, get_or, take}
use Rattle.signal_graph.specs.flat_net.Signal.{Signal}
use Rattle.latch_graph.proofs.minimal_cut.graph_components.inner.same_of.Given as goal

abbrev pub invariant-loop-read : goal.invariant-loop-read
invariant-loop-read l = l.same ≡ filter (λ (r : Signal). get_or l.labels r.0 0 == l.label) (take l.read-index l.reads)
