use Rattle.std.proofs.Common.{◌≡◌, ℕ, length, slice_get, Some}
use Rattle.latch_graph.specs.Rounds.{StandsBack}
use Rattle.latch_graph.proofs.rounds.turned.Given as goal

abbrev pub invariant-loop-i : goal.invariant-loop-i
invariant-loop-i l = record {
  size : length l.made ≡ l.i;
  back : (m x : ℕ) → slice_get l.made m ≡ Some x → StandsBack l.round l.first m x;
}
