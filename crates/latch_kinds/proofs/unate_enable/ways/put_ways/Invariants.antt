use Rattle.std.proofs.Common.{◌≡◌, ◌<◌, ℕ, Bool, nat_eq, slice_get, Some}
use Rattle.indexmap.specs.IndexMap.{get}
use Rattle.circuit_theory.specs.Circuit.{IsSource}
use Rattle.flat_net.specs.View.{circuit_of}
use Rattle.latch_kinds.specs.unate_enable.Raises.{IsRaise, AreClosedTo, MayGo, way_in}
use Rattle.latch_kinds.proofs.unate_enable.ways.put_ways.Given as goal

abbrev pub invariant-loop-s : goal.invariant-loop-s
invariant-loop-s l = record {
  own : (u : ℕ) → IsSource (circuit_of l.net) u → way_in (get nat_eq l.ways) u ≡ way_in (get nat_eq l.initial.ways) u;
  go : (u : ℕ) (low high : ℕ → Bool) → IsSource (circuit_of l.net) u → IsRaise (circuit_of l.net) u low high → AreClosedTo (circuit_of l.net) u l.signals → MayGo (way_in (get nat_eq l.initial.ways) u) (low u) (high u) → (k s : ℕ) → k < l.s-index → slice_get l.signals k ≡ Some s →
      MayGo (way_in (get nat_eq l.ways) s) (low s) (high s);
}
