use Rattle.std.specs.Prelude.{◌≡◌, ◌<◌, ◌-◌, ◌⊎◌, ℕ, length, slice_get, Some, Contains}
use Rattle.signal_graph.specs.inner_cone.latch_cone.circuit_theory.Circuit.{Reads}
use Rattle.signal_graph.specs.inner_cone.latch_cone.flat_net.View.{circuit_of}
use Rattle.signal_graph.specs.inner_cone.latch_cone.Cones.{AreSome}
use Rattle.signal_graph.specs.inner_cone.Inner.{IsLow}
use Rattle.signal_graph.proofs.inner_cone.walk.put_walked.Given as goal

abbrev pub invariant-loop-at : goal.invariant-loop-at
invariant-loop-at l = record {
  some : AreSome l.net l.fn.from.0 l.seen;
  root : Contains l.seen l.fn.from.0 ⊎ IsLow l.ranks l.least l.fn.from.0;
  closed : (i s : ℕ) → i < l.at → slice_get l.seen i ≡ Some s → (r : ℕ) → Reads (circuit_of l.net) s r → Contains l.seen r ⊎ IsLow l.ranks l.least r;
}

abbrev pub decreases-loop-at : goal.decreases-loop-at
decreases-loop-at l = length l.net.drivers - l.at
