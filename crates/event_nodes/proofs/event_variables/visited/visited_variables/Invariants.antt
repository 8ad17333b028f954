use Rattle.std.proofs.Common.{◌≡◌, ◌+◌, ◌≤◌, length}
use Rattle.event_nodes.specs.Nodes.{GrowsEvents}
use Rattle.event_nodes.proofs.event_variables.Putting.{InputsUpTo}
use Rattle.event_nodes.proofs.event_variables.visited.visited_variables.Given as goal

abbrev pub invariant-loop-number : goal.invariant-loop-number
invariant-loop-number l = record {
  inputs : InputsUpTo l.circuit l.events l.visits.places l.number l.found.items;
  grows : GrowsEvents l.initial.events l.events;
  few : length l.events.places ≤ length l.initial.events.places + l.number;
  same : l.events ≡ record l.initial.events { places = l.events.places };
}
