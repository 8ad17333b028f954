use Rattle.std.proofs.Common.{◌≡◌, ℕ, true, length, slice_get, Some}
use Rattle.flat_net.specs.declared.parts.LatchAt.{LatchAt}
use Rattle.signal_graph.specs.declared.inner_cone.parts.InnerParts.{InnerParts}
use Rattle.signal_graph.specs.inner_cone.Sides.{AreSides}
use Rattle.signal_graph.specs.inner_cone.Gates.{AreInnerGates}
use Rattle.cycle_sim.proofs.marked.cones_by.Given as goal

abbrev pub invariant-loop-j : goal.invariant-loop-j
invariant-loop-j l = record {
  each : length l.cones.items ≡ l.j;
  sides : (k : ℕ) (m : LatchAt) (cone : InnerParts) → slice_get l.net.latches k ≡ Some m → slice_get l.enabled k ≡ Some true → slice_get l.cones.items k ≡ Some cone → AreSides l.net m.next.0 m.out.0 cone.sides;
  gates : (k : ℕ) (m : LatchAt) (cone : InnerParts) → slice_get l.net.latches k ≡ Some m → slice_get l.enabled k ≡ Some true → slice_get l.cones.items k ≡ Some cone → AreInnerGates l.net m cone.gates;
}
