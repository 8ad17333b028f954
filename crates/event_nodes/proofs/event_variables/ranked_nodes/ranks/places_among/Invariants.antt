use Rattle.std.proofs.Common.{◌≡◌, ℕ, ◌<◌, length, slice_get, Some}
use Rattle.event_nodes.proofs.event_variables.ranked_nodes.ranks.places_among.Given as goal

abbrev pub invariant-loop-i : goal.invariant-loop-i
invariant-loop-i l = record {
  each : length l.places.items ≡ l.count;
  so_far : (k n : ℕ) → k < l.i → slice_get l.numbers k ≡ Some n → slice_get l.places.items n ≡ Some k;
}
