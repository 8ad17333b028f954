use Rattle.std.proofs.Common.{◌≡◌, ◌^◌, ◌<◌, length}
use Rattle.event_nodes.specs.Nodes.{GrowsEvents}
use Rattle.class_search.specs.declared.compare.Enable.{Enable}
use Rattle.class_search.specs.Comparing.{IsReadyEnable}
use Rattle.class_search.specs.Search.{AreTold}
use Rattle.class_search.proofs.search.search.Given as goal

abbrev pub invariant-loop-place : goal.invariant-loop-place
invariant-loop-place l = record {
  told : AreTold l.initial.events l.events l.classes l.latch l.conflicts l.told.items;
  long : length l.told.items ≡ l.place;
  ready : (x : Enable) → IsReadyEnable l.initial.events x → IsReadyEnable l.events x;
  grows : GrowsEvents l.initial.events l.events;
  room : length l.initial.events.graph < 2 ^ 29 → length l.events.graph < 2 ^ 29;
  rest : l.events ≡ record l.initial.events { graph = l.events.graph };
}
