use Rattle.std.specs.Prelude.{◌≡◌, ◌<◌, ℕ, slice_get, Some, Contains}
use Rattle.signal_graph.specs.inner_cone.latch_cone.flat_net.Signal.{Signal}
use Rattle.signal_graph.specs.inner_cone.latch_cone.flat_net.View.{NetView}
use Rattle.signal_graph.specs.inner_cone.latch_cone.Cones.{AreRead}
use Rattle.signal_graph.specs.inner_cone.Inner.{IsLow}
use Rattle.signal_graph.specs.inner_cone.Sides.{AreSomeSides, AreKept}
use Rattle.signal_graph.proofs.inner_cone.sides.put_lows.Given as goal

abbrev pub invariant-loop-signal : goal.invariant-loop-signal
invariant-loop-signal l = record {
  kept : AreKept l.initial.sides l.sides;
  some : (n : NetView) (from own : ℕ) → AreRead n from l.reads → AreSomeSides n l.ranks l.least from own l.initial.sides → AreSomeSides n l.ranks l.least from own l.sides;
  there : (k : ℕ) (r : Signal) → k < l.signal-index → slice_get l.reads k ≡ Some r → IsLow l.ranks l.least r.0 → Contains l.sides r;
}
