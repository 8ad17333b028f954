use Rattle.std.proofs.Common.{◌≡◌, ◌+◌, ◌<◌, ◌≤◌, ℕ, length, slice_get, Some}
use Rattle.event_nodes.specs.Nodes.{GrowsEvents}
use Rattle.class_search.specs.declared.compare.Enable.{Enable}
use Rattle.class_search.specs.Comparing.{IsReadyEnable}
use Rattle.class_search.specs.Fitting.{AreSameEnables}
use Rattle.class_search.proofs.fitting.first_unlike.Given as goal

abbrev pub invariant-loop-member : goal.invariant-loop-member
invariant-loop-member l = record {
  same : (i : ℕ) (x : Enable) → i < l.member → slice_get l.members i ≡ Some x → AreSameEnables l.events x l.latch;
  ready : (x : Enable) → IsReadyEnable l.initial.events x → IsReadyEnable l.events x;
  grows : GrowsEvents l.initial.events l.events;
  few : length l.events.graph ≤ length l.initial.events.graph + l.member;
  rest : l.events ≡ record l.initial.events { graph = l.events.graph };
}
