use Rattle.std.proofs.Common.{◌≡◌, ◌<◌, ℕ, Bool, List, nat_eq, slice_get, Some, take}
use Rattle.std.specs.List.{sum_by}
use Rattle.indexmap.specs.IndexMap.{get}
use Rattle.flat_net.specs.View.{circuit_of}
use Rattle.flat_net.specs.Weights.{weight_at}
use Rattle.latch_kinds.specs.unate_enable.Building.{IsKnown, Learns, HasGrown}
use Rattle.latch_kinds.proofs.unate_enable.cone_literals.put_gates.Given as goal

abbrev pub invariant-loop-s : goal.invariant-loop-s
invariant-loop-s l = record {
  learns : (u : ℕ) (bit : Bool) (places : List ℕ) → Learns (circuit_of l.net) u bit places l.initial.aig l.aig (get nat_eq l.initial.known) (get nat_eq l.known);
  known : (k s : ℕ) → k < l.s-index → slice_get l.signals k ≡ Some s → IsKnown (get nat_eq l.known) s;
  grown : HasGrown l.initial.aig l.aig (sum_by (weight_at l.net) (take l.s-index l.signals)) 0;
}
