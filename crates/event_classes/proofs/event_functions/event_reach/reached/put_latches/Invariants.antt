use Rattle.std.proofs.Common.{◌≡◌, ◌<◌, ◌≤◌, ℕ, List, length, slice_get, Some}
use Rattle.std.specs.List.{Contains}
use Rattle.circuit_theory.specs.Circuit.{IsLatch}
use Rattle.event_nodes.specs.flat_net.View.{circuit_of}
use Rattle.event_nodes.specs.Adds.{Adds}
use Rattle.event_classes.proofs.event_functions.event_reach.Latches.{IsRootLatch}
use Rattle.event_classes.proofs.event_functions.event_reach.reached.put_latches.Given as goal

abbrev pub invariant-loop-at : goal.invariant-loop-at
invariant-loop-at l = record {
  adds : Adds (IsRootLatch l.net l.signals) l.initial.table l.table;
  all : (i v : ℕ) (name : List ℕ) (next : ℕ) → i < l.at → slice_get l.signals i ≡ Some v → IsLatch (circuit_of l.net) name v next → Contains l.table (0, v);
  few : length l.table ≤ l.cap;
}
