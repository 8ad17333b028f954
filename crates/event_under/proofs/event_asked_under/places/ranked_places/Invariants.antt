use Rattle.std.proofs.Common.{◌≡◌, take}
use Rattle.event_nodes.specs.event_variables.ranked_nodes.Named.{ranked_in}
use Rattle.event_under.proofs.event_asked_under.places.ranked_places.Given as goal

abbrev pub invariant-loop-v : goal.invariant-loop-v
invariant-loop-v l = l.table ≡ ranked_in l.ranks (take l.v l.events.places)
