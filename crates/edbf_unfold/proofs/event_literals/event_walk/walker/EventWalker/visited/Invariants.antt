use Rattle.std.proofs.Common.{◌-◌, ◌*◌, take}
use Rattle.event_nodes.specs.Visited.{places_weight}
use Rattle.edbf_unfold.specs.event_literals.event_walk.Walk.{IsWalk, IsExact}
use Rattle.edbf_unfold.proofs.event_literals.event_walk.walker.EventWalker.visited.Given as goal

abbrev pub invariant-loop-at : goal.invariant-loop-at
invariant-loop-at l = record {
  walk : IsWalk l.initial.self l.self l.initial.events l.events l.fn.root l.fn.beside l.table l.ways.items l.at (places_weight l.self.circuit.net (take l.at l.table)) (5 * l.counter.weight);
  exact : IsExact l.initial.self l.self l.initial.events l.events l.initial.counter l.counter l.fn.root l.fn.beside l.table l.at;
}

abbrev pub decreases-loop-at : goal.decreases-loop-at
decreases-loop-at l = 10000000 - l.at
