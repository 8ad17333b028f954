use Rattle.std.specs.Prelude.{◌≡◌, ◌<◌, ◌⊎◌, ℕ, slice_get, Some, Contains}
use Rattle.signal_graph.specs.inner_cone.latch_cone.flat_net.Signal.{Signal}
use Rattle.signal_graph.specs.inner_cone.latch_cone.flat_net.View.{NetView}
use Rattle.signal_graph.specs.inner_cone.latch_cone.Cones.{AreSome, AreRead, Stay}
use Rattle.signal_graph.specs.inner_cone.Inner.{IsLow}
use Rattle.signal_graph.proofs.inner_cone.walk.put_all.Given as goal

abbrev pub invariant-loop-signal : goal.invariant-loop-signal
invariant-loop-signal l = record {
  stay : Stay l.initial.seen l.seen;
  some : (n : NetView) (from : ℕ) → AreRead n from l.reads → AreSome n from l.initial.seen → AreSome n from l.seen;
  there : (k : ℕ) (r : Signal) → k < l.signal-index → slice_get l.reads k ≡ Some r → Contains l.seen r.0 ⊎ IsLow l.ranks l.least r.0;
}
