use Rattle.std.proofs.Common.{◌≡◌, ℕ, ◌<◌, [], slice_get, Some}
use Rattle.latch_graph.specs.declared.states.State.TheVariants.{New}
use Rattle.latch_graph.specs.Settling.{IsWay, IsLater}
use Rattle.latch_graph.proofs.states.settle.Given as goal

abbrev pub invariant-loop-signal : goal.invariant-loop-signal
invariant-loop-signal l = record {
  way : IsWay l.nodes l.states [];
  empty : l.way.items ≡ [];
  later : IsLater l.initial.states l.states;
  old : (s : ℕ) → s < l.signal → slice_get l.states s ≡ Some New → ⊥;
}
