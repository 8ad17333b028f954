use Rattle.std.proofs.Common.{◌≡◌}
use Rattle.event_nodes.specs.event_variables.ranked_nodes.Ranks.{HasZeros}
use Rattle.event_nodes.proofs.event_variables.ranked_nodes.nodes.put_zeros.Given as goal

abbrev pub invariant-loop-n : goal.invariant-loop-n
invariant-loop-n l = record {
  children : l.events.children ≡ l.fn.events.children;
  zeros : HasZeros l.n l.events.places;
}
