use Rattle.std.specs.Prelude.{◌≡◌, ◌<◌, ◌-◌, ℕ, length, slice_get, Some, Contains}
use Rattle.signal_graph.specs.inner_cone.latch_cone.Cones.{AreSome, AreReadsSeen}
use Rattle.signal_graph.proofs.inner_cone.latch_cone.walk.put_reached.Given as goal

abbrev pub invariant-loop-at : goal.invariant-loop-at
invariant-loop-at l = record {
  some : AreSome l.net l.fn.from.0 l.seen;
  root : Contains l.seen l.fn.from.0;
  closed : (i s : ℕ) → i < l.at → slice_get l.seen i ≡ Some s → AreReadsSeen l.net s l.seen;
}

abbrev pub decreases-loop-at : goal.decreases-loop-at
decreases-loop-at l = length l.net.drivers - l.at
