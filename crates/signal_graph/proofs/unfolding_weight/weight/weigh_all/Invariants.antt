use Rattle.std.proofs.Common.{◌≡◌, ◌<◌, ◌≤◌, ◌-◌, ℕ, map, Some, slice_get}
use Rattle.std.specs.List.{Contains}
use Rattle.signal_graph.specs.unfolding_weight.Weight.{AreMet, AreReadsThere}
use Rattle.signal_graph.proofs.unfolding_weight.weight.weigh_all.Given as goal

abbrev pub invariant-loop-at : goal.invariant-loop-at
invariant-loop-at l = record {
  met : AreMet l.net (map (λ s. s.0) l.outputs) l.places l.total;
  low : l.total ≤ l.cap;
  roots : (o : ℕ) → Contains (map (λ s. s.0) l.outputs) o → Contains l.places (o, 0);
  closed : (i : ℕ) (p : ℕ × ℕ) → i < l.at → slice_get l.places i ≡ Some p → AreReadsThere l.nodes p l.places;
}

abbrev pub decreases-loop-at : goal.decreases-loop-at
decreases-loop-at l = l.cap - l.at
