use Rattle.std.proofs.Common.{◌≡◌, ◌+◌, ◌-◌, ◌<◌, ◌≤◌, ℕ, length, slice_get, Some}
use Rattle.std.specs.List.{All}
use Rattle.circuit_theory.specs.EventSizes.{Start}
use Rattle.event_nodes.specs.Adds.{Adds}
use Rattle.event_nodes.specs.Nodes.{GrowsEvents}
use Rattle.circuit_theory.specs.Depth.{LatchesHaveDepths}
use Rattle.event_nodes.specs.flat_net.View.{circuit_of}
use Rattle.event_nodes.specs.Reach.{IsReachedPlace, IsPassedOn}
use Rattle.event_classes.specs.event_functions.event_reach.Made.{HasChild}
use Rattle.event_nodes.specs.View.{Enabled}
use Rattle.event_nodes.specs.Visited.{AreNodesFrom}
use Rattle.event_classes.proofs.event_functions.event_reach.reached.pass_on_all.Given as goal

abbrev pub invariant-loop-at : goal.invariant-loop-at
invariant-loop-at l = record {
  reached : (x : Start ℕ) → All (IsReachedPlace l.circuit l.initial.events.children x) l.initial.table → All (IsReachedPlace l.circuit l.events.children x) l.table;
  passed : LatchesHaveDepths (circuit_of l.circuit.net) (Enabled l.circuit) → (i : ℕ) (p : ℕ × ℕ) → i < l.at → slice_get l.table i ≡ Some p → IsPassedOn l.circuit l.events.children l.table p;
  children : (i : ℕ) (p : ℕ × ℕ) → i < l.at → slice_get l.table i ≡ Some p → HasChild l.circuit l.events.children p;
  made : (x : Start ℕ) → All (IsReachedPlace l.circuit l.initial.events.children x) l.initial.table → AreNodesFrom l.circuit l.events.children x (length l.initial.events.children);
  kept : Adds (λ (q : ℕ × ℕ). q ≡ q) l.initial.table l.table;
  few : length l.table ≤ l.cap;
  grows : GrowsEvents l.initial.events l.events;
  same : l.events ≡ record l.initial.events { children = l.events.children };
  small : length l.events.children ≤ length l.initial.events.children + l.at;
  inside : l.at ≤ length l.table;
}

abbrev pub decreases-loop-at : goal.decreases-loop-at
decreases-loop-at l = l.cap - l.at
