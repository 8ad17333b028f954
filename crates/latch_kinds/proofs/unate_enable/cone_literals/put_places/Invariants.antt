use Rattle.std.proofs.Common.{◌≡◌, ◌<◌, ℕ, Bool, nat_eq, slice_get, Some}
use Rattle.indexmap.specs.IndexMap.{get}
use Rattle.circuit_theory.specs.Circuit.{Circuit}
use Rattle.latch_kinds.specs.unate_enable.Building.{IsKnown, Learns, HasGrown}
use Rattle.latch_kinds.proofs.unate_enable.cone_literals.put_places.Given as goal

abbrev pub invariant-loop-k : goal.invariant-loop-k
invariant-loop-k l = record {
  learns : (c : Circuit ℕ) (u : ℕ) (bit : Bool) → Learns c u bit l.places l.initial.aig l.aig (get nat_eq l.initial.known) (get nat_eq l.known);
  known : (k s : ℕ) → k < l.k → slice_get l.places k ≡ Some s → IsKnown (get nat_eq l.known) s;
  grown : HasGrown l.initial.aig l.aig l.k l.k;
}
