use Rattle.std.proofs.Common.{◌≡◌, [], take}
use Rattle.event_nodes.proofs.event_variables.ranked_nodes.nodes.copy_nodes.Given as goal

abbrev pub invariant-loop-n : goal.invariant-loop-n
invariant-loop-n l = record {
  children : l.made.children ≡ take l.n l.events.children;
  places : l.made.places ≡ [];
}
