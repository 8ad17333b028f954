use Rattle.std.proofs.Common.{◌≡◌, ◌<◌, ℕ, length, slice_get, Some}
use Rattle.circuit_theory.specs.Names.{ListBefore}
use Rattle.latch_graph.specs.Rounds.{latch_in}
use Rattle.latch_graph.proofs.rounds.least.Given as goal

abbrev pub invariant-loop-i : goal.invariant-loop-i
invariant-loop-i l = record {
  within : l.best < length l.round;
  least : (m j x : ℕ) → m < l.i → slice_get l.round m ≡ Some j → slice_get l.round l.best ≡ Some x → ListBefore (latch_in l.latches j).name (latch_in l.latches x).name → ⊥;
}
